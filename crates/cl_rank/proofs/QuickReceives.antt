-- RECVs that are worked out straight from the registers: they ask what the table of calls says, need no page more, and are
-- over once they have their message.
use Rattle.std.proofs.Common.{◌≡◌, ℕ, ◌<◌, ◌≤◌, ◌^◌, ◌==◌, List, [], ◌∷◌, length, Bool, true, false, Option, Some, None}
use Rattle.std.proofs.Common.{refl, sym, ap, subst, ◌∙◌, ◌+◌, arith}
use Rattle.std.specs.Prelude.{if◌then◌else◌, nat_le, nat_lt, min, take, get_or, is_some, vec_len, vec_capacity}
use Rattle.std.proofs.Math.Seq.{take-length}
use Rattle.std.proofs.lemmas.Bool.{ne_eqb}
use Rattle.std.proofs.lemmas.Bool.Decides.{nat_tests}
use Rattle.std.proofs.lemmas.List.{take_min}
use Rattle.std.proofs.lemmas.List.{get_or_read_under}
use Rattle.rv_hart.specs.State.{State, read}
use Rattle.rv_hart.specs.declared.state.Mode.{Mode}
use Rattle.rv_hart.specs.declared.state.Mode.TheVariants.{Running as Runs}
use Rattle.rv_memory.specs.Access.{word_at}
use Rattle.rv_memory.specs.Memory.{Memory, with_bytes}
use Rattle.rv_memory.specs.MorePages.{missing_pages}
use Rattle.rv_memory.specs.Present.{IsWritable}
use Rattle.rv_memory.proofs.Marked.{writable-behind, writable-inside}
use Rattle.mp_types.specs.declared.codes.Code.TheVariants as code
use Rattle.mp_types.specs.declared.messages.Message.{Message}
use Rattle.mp_types.specs.declared.replies.Reply.{Reply}
use Rattle.mp_types.specs.declared.replies.Reply.TheVariants as reply
use Rattle.mp_types.specs.declared.requests.Request.{Request}
use Rattle.mp_types.specs.declared.requests.Request.TheVariants as request
use Rattle.mp_request.specs.Table.{Table}
use Rattle.mp_request.specs.declared.entries.Transfer.TheVariants as transfer
use Rattle.part_channel.specs.Receiving.{RecvView}
use Rattle.part_channel.specs.Sending.{SendView}
use Rattle.part_phase.specs.declared.phases.Phase.{Phase}
use Rattle.cl_calls.specs.declared.calls.Call.{Call}
use Rattle.cl_calls.specs.declared.calls.Call.TheVariants as call
use Rattle.cl_calls.specs.declared.calls.Receiving.{Receiving}
use Rattle.cl_calls.specs.declared.sites.Site.{Site}
use Rattle.cl_calls.specs.Calls.{argument, call_named, call_rows, no_rank, row_at, receiving_by}
use Rattle.cl_calls.specs.Checks.{checks, first_fault}
use Rattle.cl_calls.specs.Needs.{needs_of}
use Rattle.cl_calls.specs.Site.{members, position_of}
use Rattle.cl_state.specs.declared.asking.Answer.TheVariants as answer
use Rattle.cl_state.specs.declared.asking.Ask.TheVariants as ask
use Rattle.cl_state.specs.declared.asking.Doing.TheVariants.{Go, Step}
use Rattle.cl_state.specs.declared.pending.Target.{Target}
use Rattle.cl_state.specs.declared.state.RankState.{RankState}
use Rattle.cl_state.specs.Asked.{Part, asked, asked_in, checked, doing, doing_in, go_or_refuse, is_ecall, no_hart, part_of}
use Rattle.cl_state.specs.Rank.{Rank}
use Rattle.cl_state.specs.Right.{output_of}
use Rattle.cl_state.specs.Room.{rank_of}
use Rattle.cl_state.specs.Table.{comes, into, nothing_comes}
use Rattle.cl_state.specs.Told.{ended, received, received_from, received_message, told, told_in, told_row, waiting, with_part, with_status}
use Rattle.cl_state.specs.Transfers.{asked_transfer, source_of, tag_of}
use Rattle.cl_state.specs.TurnRoom.{HasRoom}
use Rattle.cl_state.specs.Writes.{IsEnough, bytes_from, message_into, writes_by, writes_in}
use Rattle.cl_state.specs.Written.{written}
use Rattle.cl_state.proofs.Pages.{enough_first, enough_missing, none_enough, one_enough}
use Rattle.cl_deeds.specs.Deeds.{Act}
use Rattle.cl_rank.specs.Fitting.{RequestsFit}
use Rattle.cl_sides.specs.Sides.{AreSides, sides_in}
use Rattle.cl_rank.specs.declared.ranks.Rank.{Rank as Running}
use Rattle.cl_rank.specs.QuickReceives.{Fits, IsRightReceive, IsRoomyReceive, MayReceive, Receives, got_at, waits_at}
use Rattle.cl_rank.proofs.Keys.{keys_stay}
use Rattle.cl_rank.proofs.Moves.{Moved, later}
use Rattle.cl_rank.proofs.Went.{Went}

-- ---- its checks hold

-- the call of number 18
named : (hart : State) → read hart 17 ≡ 18 → read hart 15 ≡ 0
    → call_named hart ≡ call.Recv (receiving_by (argument hart)) 0
named hart is none =
    ap (λ n. row_at n (call_rows (argument hart))) is ∙ ap (call.Recv (receiving_by (argument hart))) none

few_enough : (n : ℕ) → n ≤ 4096 → nat_le n 4096 ≡ true
few_enough n few = grind (arith, few)

no_fault : (site : Site) (memory : Memory) (table : Table) (phases : List Phase) (written : ℕ) (r : Receiving)
    → IsRightReceive site memory r
    → first_fault (checks site memory table phases written (needs_of (call.Recv r 0))) ≡ None
no_fault site memory table phases written r right =
    let comm = right.0 in
    let peer = right.1 in
    let tag = right.3 in
    let count = few_enough r.capacity right.4 in
    let buffer = right.5 in
    rw (comm, peer, tag, count, buffer) refl

does_receive : (site : Site) (part : Part) (at : State) (r : Receiving) → at ≡ part.hart → at.mode ≡ Runs
    → is_ecall (word_at part.memory at.pc) ≡ true → read at 17 ≡ 18 → read at 15 ≡ 0 → r ≡ receiving_by (argument at)
    → IsRightReceive site part.memory r → doing site part ≡ Go (call.Recv r 0)
unfolding doing
does_receive site part at r here running ecall number none is right =
    let spelled : call_named part.hart ≡ call.Recv r 0 =
    ap call_named (sym here) ∙ named at number none ∙ ap (λ (x : Receiving). call.Recv x 0) (sym is) in
    ap (λ (m : Mode). doing_in m site part) (ap (λ (h : State). h.mode) (sym here) ∙ running)
    ∙ ap (λ (b : Bool). if b then checked site part else Step)
    (ap (λ (h : State). is_ecall (word_at part.memory h.pc)) (sym here) ∙ ecall)
    ∙ ap (λ (c : Call). go_or_refuse
    (first_fault (checks site part.memory part.requests part.phases (length part.out) (needs_of c))) c) spelled
    ∙ ap (λ o. go_or_refuse o (call.Recv r 0))
    (no_fault site part.memory part.requests part.phases (length part.out) r right)

-- ---- what it asks

asks_receive : (memory : Memory) (b : Bool) (buffer capacity comm : ℕ) (source tag : Option ℕ) → b ≡ false
    → asked_transfer memory true (if b then transfer.ReceiveFromNull else transfer.Receive buffer capacity source tag comm)
    ≡ ask.Hub (request.Recv true comm source tag)
asks_receive memory true buffer capacity comm source tag h = absurd (cc)
asks_receive memory false buffer capacity comm source tag h = refl

pub receives_so : (state : RankState) (hart : ℕ) (at : State) (r : Receiving) (q : Request)
    → at ≡ get_or state.harts.items hart at → hart < vec_len state.harts → at.mode ≡ Runs
    → is_ecall (word_at state.memory at.pc) ≡ true → read at 17 ≡ 18 → read at 15 ≡ 0 → r ≡ receiving_by (argument at)
    → IsRoomyReceive state.site state.memory r
    → q ≡ request.Recv true r.comm (source_of state.site r.comm r.source) (tag_of r.tag)
    → Receives state hart r q
unfolding asked
receives_so state hart at r q read_at there running ecall number none is right asks =
    let part = part_of (rank_of state) hart in
    let here = get_or_read_under state.harts.items hart (vec_len state.harts) at no_hart read_at there state.harts.ok.0 in
    let goes = does_receive state.site part at r here running ecall number none is right.0 in
    let moves = ne_eqb r.source no_rank right.0.2 in
    record {
      turn = goes;
      moves = moves;
      asks = ap (asked_in state.site state.memory state.requests state.phases) goes
          ∙ asks_receive state.memory (r.source == no_rank) r.buffer r.capacity r.comm
          (source_of state.site r.comm r.source) (tag_of r.tag) moves
          ∙ ap ask.Hub (sym asks);
      roomy = right;
    }

-- ---- it needs no page more

writes_message : (part : Part) (b : Bool) (target : Target) → b ≡ false
    → writes_by part (if b then nothing_comes target else comes target) ≡ message_into target target.capacity
writes_message part true target h = absurd (cc)
writes_message part false target h = refl

pub has_room : (state : RankState) (hart : ℕ) (r : Receiving) (q : Request) → Receives state hart r q
    → state.fresh.items ≡ [] → HasRoom state hart
has_room state hart r q receives none =
    let part = part_of (rank_of state) hart in
    let target = into r.buffer r.capacity 0 in
    let ps = state.memory.pages in
    let writes = ap (λ d. writes_in state.site hart d part) receives.turn
    ∙ writes_message part (r.source == no_rank) target receives.moves in
    let count : vec_len state.fresh ≡ 0 = state.fresh.ok.0 ∙ ap length none in
    let within : vec_len state.out ≤ vec_capacity state.out = state.out.ok.1 in
    let status : missing_pages ps 0 0 ≤ 0 = one_enough ps 0 0 0 (none_enough ps 0 0) in (
      (none ∙ sym (ap (output_of state.memory) receives.turn), omega (arith, count, within)),
      subst (λ rs. IsEnough ps state.spares rs) (sym writes)
          (enough_missing ps state.spares (message_into target r.capacity) (omega (arith, receives.roomy.1, status))),
    )

-- ---- where its message goes

-- fewer bytes may be written, too
pub fewer_right : (m : Memory) (a c n : ℕ) → IsWritable m a c → n ≤ c → IsWritable m a n
fewer_right m a c n right few = go (n == 0) refl
  where
    go : (b : Bool) → (n == 0) ≡ b → IsWritable m a n
    go true is = rw is refl
    go false is =
        let some : 0 < n = grind (arith, nat_tests, is) in
        let more : 0 < c = omega (arith, some, few) in
        let inside : nat_le (a + n) (length m.bytes) ≡ true = grind (arith, writable-inside m a c more right, few) in
        let behind : nat_le m.text a ≡ true = grind (arith, writable-behind m a c more right) in
        rw (is, inside, behind) refl

-- and their pages are there
pub fewer_present : (ps : List Bool) (a c n : ℕ) → missing_pages ps a c ≡ 0 → n ≤ c → missing_pages ps a n ≡ 0
fewer_present ps a c n none few =
    let least : missing_pages ps a n ≤ 0 =
    enough_first ps 0 a c n [] (enough_missing ps 0 (bytes_from a c ∷ []) (omega (arith, none))) few in
    omega (arith, least)

-- bytes that may be written
pub is_written : (m : Memory) (a : ℕ) (bytes : List ℕ) → IsWritable m a (length bytes) → (length bytes ≡ 0 → ⊥)
    → written m a bytes ≡ with_bytes m a bytes
is_written m a bytes right some = rw (right, ne_eqb (length bytes) 0 some) refl

-- ---- it is over once it has its message

pub fits_got : (site : Site) (r : Receiving) (a : Reply) (m : Message) → Fits site r a → a ≡ reply.Got m
    → Fits site r (reply.Got m)
fits_got site r a m fits is = subst (Fits site r) is fits

whole : (n : ℕ) (xs : List ℕ) → length xs ≤ n → take n xs ≡ xs
whole n xs few =
    let all : min n (length xs) ≡ length xs = omega (arith, few) in
    sym (take_min n xs) ∙ ap (λ k. take k xs) all ∙ take-length xs

none_longer : (n m : ℕ) → m ≤ n → nat_lt n m ≡ false
none_longer n m few = grind arith

received_whole : (o : Option ℕ) (r : Receiving) (m : Message) (part : Part) → is_some o ≡ true
    → length m.bytes ≤ r.capacity
    → received_from o (into r.buffer r.capacity 0) m part
    ≡ ended code.Ok 0 (record part { memory = written part.memory r.buffer m.bytes })
unfolding received with_status
received_whole None r m part there few = absurd (cc)
received_whole (Some place) r m part there few =
    ap (λ bs. ended (if nat_lt r.capacity (length m.bytes) then code.Truncated else code.Ok) 0
    (record part { memory = written part.memory r.buffer bs })) (whole r.capacity m.bytes few)
    ∙ ap (λ (b : Bool). ended (if b then code.Truncated else code.Ok) 0
    (record part { memory = written part.memory r.buffer m.bytes })) (none_longer r.capacity (length m.bytes) few)

row_got : (site : Site) (part : Part) (b : Bool) (r : Receiving) (m : Message) → b ≡ false → Fits site r (reply.Got m)
    → told_row site
    (if b then nothing_comes (into r.buffer r.capacity 0) else comes (into r.buffer r.capacity 0))
    (answer.Reply (reply.Got m)) part ≡ ended code.Ok 0 (record part { memory = written part.memory r.buffer m.bytes })
unfolding received_message
row_got site part true r m h fits = absurd (cc)
row_got site part false r m h fits =
    received_whole (position_of m.envelope.source (members site m.envelope.comm)) r m part fits.0 fits.1

told_got : (state : RankState) (hart stamp : ℕ) (r : Receiving) (m : Message) (q : Request) → Receives state hart r q
    → Fits state.site r (reply.Got m)
    → told (rank_of state) hart (answer.Reply (reply.Got m)) stamp
    ≡ got_at (rank_of state) hart r.buffer m.bytes stamp
unfolding told
told_got state hart stamp r m q receives fits =
    let part = part_of (rank_of state) hart in
    ap (λ x. with_part (rank_of state) hart x stamp)
    (ap (λ d. told_in state.site hart d (answer.Reply (reply.Got m)) part) receives.turn
    ∙ row_got state.site part (r.source == no_rank) r m receives.moves fits)

-- no side changes
sides_stay : (rank : Rank) (hart buffer stamp : ℕ) (bytes : List ℕ) (q : Request) (answered : Reply)
    (sends : List (ℕ × SendView)) (recvs : List (ℕ × RecvView))
    → AreSides rank.site.version rank.phases rank.clock (sides_in sends recvs)
    → RequestsFit rank.requests rank.phases → rank.clock ≤ stamp
    → Moved rank (got_at rank hart buffer bytes stamp) (sides_in sends recvs) (sides_in sends recvs) stamp
    (Act.Hub rank.clock q answered)
sides_stay rank hart buffer stamp bytes q answered sends recvs sides fit low = record {
  sides = later rank.site.version rank.phases rank.clock stamp _ low sides;
  fit = fit;
  keys = keys_stay rank.site.version stamp (Act.Hub rank.clock q answered) _ _ refl (λ l p. refl) (λ l p. refl);
  own = λ channels own. own;
}

pub went_got : (r : Running) (new : RankState) {hart stamp : ℕ} {q : Request} (a : Reply) (to : Receiving) (m : Message)
    → MayReceive r hart to q → (r.state.clock < stamp) × (stamp < 2 ^ 62) → a ≡ reply.Got m
    → Fits r.state.site to (reply.Got m)
    → rank_of new ≡ got_at (rank_of r.state) hart to.buffer m.bytes stamp
    → Went r hart stamp (Act.Hub r.state.clock q a) new (sides_in r.sends.items r.recvs.items)
went_got r new {hart} {stamp} {q} a to m may stamps got fits is = record {
  there = may.has.there;
  low = stamps.1;
  answers = may.turn.asks;
  stamps = (refl, stamps.0);
  tells = is ∙ sym (told_got r.state hart stamp to m q may.turn fits)
      ∙ ap (λ x. told (rank_of r.state) hart (answer.Reply x) stamp) (sym got);
  moved = subst (λ (x : Rank). Moved (rank_of r.state) x (sides_in r.sends.items r.recvs.items)
      (sides_in r.sends.items r.recvs.items) stamp (Act.Hub r.state.clock q a)) (sym is)
      (sides_stay (rank_of r.state) hart to.buffer stamp m.bytes q a r.sends.items r.recvs.items r.sides r.fit
      (omega (arith, stamps.0)));
}

-- ---- it waits where there is none

row_waits : (site : Site) (part : Part) (b : Bool) (target : Target) (post : ℕ) (paired : Bool) → b ≡ false
    → told_row site (if b then nothing_comes target else comes target) (answer.Reply (reply.Posted post paired)) part
    ≡ waiting post part
row_waits site part true target post paired h = absurd (cc)
row_waits site part false target post paired h = refl

told_waits : (state : RankState) (hart stamp post : ℕ) (paired : Bool) (r : Receiving) (q : Request)
    → Receives state hart r q
    → told (rank_of state) hart (answer.Reply (reply.Posted post paired)) stamp
    ≡ waits_at (rank_of state) hart post stamp
unfolding told
told_waits state hart stamp post paired r q receives =
    let part = part_of (rank_of state) hart in
    ap (λ x. with_part (rank_of state) hart x stamp)
    (ap (λ d. told_in state.site hart d (answer.Reply (reply.Posted post paired)) part) receives.turn
    ∙ row_waits state.site part (r.source == no_rank) (into r.buffer r.capacity 0) post paired receives.moves)

waiting_sides : (rank : Rank) (hart post stamp : ℕ) (q : Request) (answered : Reply) (sends : List (ℕ × SendView))
    (recvs : List (ℕ × RecvView)) → AreSides rank.site.version rank.phases rank.clock (sides_in sends recvs)
    → RequestsFit rank.requests rank.phases → rank.clock ≤ stamp
    → Moved rank (waits_at rank hart post stamp) (sides_in sends recvs) (sides_in sends recvs) stamp
    (Act.Hub rank.clock q answered)
waiting_sides rank hart post stamp q answered sends recvs sides fit low = record {
  sides = later rank.site.version rank.phases rank.clock stamp _ low sides;
  fit = fit;
  keys = keys_stay rank.site.version stamp (Act.Hub rank.clock q answered) _ _ refl (λ l p. refl) (λ l p. refl);
  own = λ channels own. own;
}

pub went_waits : (r : Running) (new : RankState) {hart stamp : ℕ} {q : Request} (to : Receiving) (post : ℕ)
    (paired : Bool) → MayReceive r hart to q → (r.state.clock < stamp) × (stamp < 2 ^ 62)
    → rank_of new ≡ waits_at (rank_of r.state) hart post stamp
    → Went r hart stamp (Act.Hub r.state.clock q (reply.Posted post paired)) new (sides_in r.sends.items r.recvs.items)
went_waits r new {hart} {stamp} {q} to post paired may stamps is = record {
  there = may.has.there;
  low = stamps.1;
  answers = may.turn.asks;
  stamps = (refl, stamps.0);
  tells = is ∙ sym (told_waits r.state hart stamp post paired to q may.turn);
  moved = subst (λ (x : Rank). Moved (rank_of r.state) x (sides_in r.sends.items r.recvs.items)
      (sides_in r.sends.items r.recvs.items) stamp (Act.Hub r.state.clock q (reply.Posted post paired))) (sym is)
      (waiting_sides (rank_of r.state) hart post stamp q (reply.Posted post paired) r.sends.items r.recvs.items r.sides
      r.fit (omega (arith, stamps.0)));
}
