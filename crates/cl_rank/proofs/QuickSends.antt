-- SENDs that are worked out straight from the registers: they ask what the table of calls says, need no room, and are over
-- once they have their post.
use Rattle.std.proofs.Common.{◌≡◌, ◌≢◌, ℕ, ◌<◌, ◌≤◌, ◌^◌, ◌==◌, List, [], length, Bool, true, false, None}
use Rattle.std.proofs.Common.{refl, sym, ap, subst, ◌∙◌, arith}
use Rattle.std.specs.Prelude.{if◌then◌else◌, nat_le, get_or, vec_len, vec_capacity}
use Rattle.std.proofs.lemmas.Bool.{ne_eqb}
use Rattle.std.proofs.lemmas.List.{get_or_read_under}
use Rattle.rv_hart.specs.State.{State, read}
use Rattle.rv_hart.specs.declared.state.Mode.{Mode}
use Rattle.rv_hart.specs.declared.state.Mode.TheVariants.{Running as Runs}
use Rattle.rv_memory.specs.Access.{word_at}
use Rattle.rv_memory.specs.Memory.{Memory, bytes_at}
use Rattle.mp_types.specs.declared.codes.Code.TheVariants as code
use Rattle.mp_types.specs.declared.replies.Reply.{Reply}
use Rattle.mp_types.specs.declared.replies.Reply.TheVariants as reply
use Rattle.mp_types.specs.declared.requests.Request.{Request}
use Rattle.mp_types.specs.declared.requests.Request.TheVariants as request
use Rattle.mp_request.specs.Table.{Table}
use Rattle.mp_request.specs.declared.entries.Transfer.TheVariants as transfer
use Rattle.part_channel.specs.Receiving.{RecvView}
use Rattle.part_channel.specs.Sending.{SendView}
use Rattle.part_phase.specs.declared.phases.Phase.{Phase}
use Rattle.cl_calls.specs.declared.calls.Call.{Call}
use Rattle.cl_calls.specs.declared.calls.Call.TheVariants as call
use Rattle.cl_calls.specs.declared.calls.Sending.{Sending}
use Rattle.cl_calls.specs.declared.sites.Site.{Site}
use Rattle.cl_calls.specs.Calls.{argument, call_named, call_rows, no_rank, row_at, sending_by}
use Rattle.cl_calls.specs.Checks.{checks, first_fault}
use Rattle.cl_calls.specs.Needs.{needs_of}
use Rattle.cl_calls.specs.Site.{member}
use Rattle.cl_state.specs.declared.asking.Answer.TheVariants as answer
use Rattle.cl_state.specs.declared.asking.Ask.TheVariants as ask
use Rattle.cl_state.specs.declared.asking.Doing.TheVariants.{Go, Step}
use Rattle.cl_state.specs.declared.row.Purpose.TheVariants as purpose
use Rattle.cl_state.specs.declared.state.RankState.{RankState}
use Rattle.cl_state.specs.Asked.{Part, asked, asked_in, checked, doing, doing_in, go_or_refuse, is_ecall, no_hart, part_of}
use Rattle.cl_state.specs.Rank.{Rank}
use Rattle.cl_state.specs.Right.{output_of}
use Rattle.cl_state.specs.Room.{rank_of}
use Rattle.cl_state.specs.Table.{begins}
use Rattle.cl_state.specs.Told.{ended, told, told_in, told_row, with_part}
use Rattle.cl_state.specs.Transfers.{asked_transfer}
use Rattle.cl_state.specs.TurnRoom.{HasRoom}
use Rattle.cl_state.specs.Writes.{IsEnough, writes_by, writes_in}
use Rattle.cl_deeds.specs.Deeds.{Act}
use Rattle.cl_rank.specs.Fitting.{RequestsFit}
use Rattle.cl_sides.specs.Sides.{AreSides, sides_in}
use Rattle.cl_rank.specs.declared.ranks.Rank.{Rank as Running}
use Rattle.cl_rank.specs.QuickSends.{IsShortSend, MaySend, Sends, sent_at}
use Rattle.cl_rank.proofs.Keys.{keys_stay}
use Rattle.cl_rank.proofs.Moves.{Moved, later}
use Rattle.cl_rank.proofs.Went.{Went}

-- ---- its checks hold

-- the call of number 16
named : (hart : State) → read hart 17 ≡ 16 → call_named hart ≡ call.Send (sending_by (argument hart))
named hart is = ap (λ n. row_at n (call_rows (argument hart))) is

few_enough : (n : ℕ) → n ≤ 16 → nat_le n 4096 ≡ true
few_enough n few = grind (arith, few)

no_fault : (site : Site) (memory : Memory) (table : Table) (phases : List Phase) (written : ℕ) (s : Sending)
    → IsShortSend site memory s → first_fault (checks site memory table phases written (needs_of (call.Send s))) ≡ None
no_fault site memory table phases written s right =
    let comm = right.0 in
    let peer = right.1 in
    let tag = right.3 in
    let count = few_enough s.count right.4 in
    let buffer = right.5 in
    rw (comm, peer, tag, count, buffer) refl

does_send : (site : Site) (part : Part) (at : State) (s : Sending) → at ≡ part.hart → at.mode ≡ Runs
    → is_ecall (word_at part.memory at.pc) ≡ true → read at 17 ≡ 16 → s ≡ sending_by (argument at)
    → IsShortSend site part.memory s → doing site part ≡ Go (call.Send s)
unfolding doing
does_send site part at s here running ecall number is right =
    let spelled : call_named part.hart ≡ call.Send s =
    ap call_named (sym here) ∙ named at number ∙ ap call.Send (sym is) in
    ap (λ (m : Mode). doing_in m site part) (ap (λ (h : State). h.mode) (sym here) ∙ running)
    ∙ ap (λ (b : Bool). if b then checked site part else Step)
    (ap (λ (h : State). is_ecall (word_at part.memory h.pc)) (sym here) ∙ ecall)
    ∙ ap (λ (c : Call). go_or_refuse
    (first_fault (checks site part.memory part.requests part.phases (length part.out) (needs_of c))) c) spelled
    ∙ ap (λ o. go_or_refuse o (call.Send s))
    (no_fault site part.memory part.requests part.phases (length part.out) s right)

-- ---- what it asks

is_other : (a b : ℕ) → a ≢ b → (a == b) ≡ false
is_other a b other = ne_eqb a b other

asks_send : (memory : Memory) (b : Bool) (buffer count dest tag comm : ℕ) → b ≡ false
    → asked_transfer memory true (if b then transfer.SendToNull else transfer.Send false buffer count dest tag comm)
    ≡ ask.Hub (request.Send false comm dest tag (bytes_at memory buffer count))
asks_send memory true buffer count dest tag comm h = absurd (cc)
asks_send memory false buffer count dest tag comm h = refl

pub sends_so : (state : RankState) (hart : ℕ) (at : State) (s : Sending) (r : Request)
    → at ≡ get_or state.harts.items hart at → hart < vec_len state.harts → at.mode ≡ Runs
    → is_ecall (word_at state.memory at.pc) ≡ true → read at 17 ≡ 16 → s ≡ sending_by (argument at)
    → IsShortSend state.site state.memory s
    → r ≡ request.Send false s.comm (member state.site s.comm s.dest) s.tag (bytes_at state.memory s.buffer s.count)
    → Sends state hart r
unfolding asked
sends_so state hart at s r read_at there running ecall number is right asks =
    let part = part_of (rank_of state) hart in
    let here = get_or_read_under state.harts.items hart (vec_len state.harts) at no_hart read_at there state.harts.ok.0 in
    let goes = does_send state.site part at s here running ecall number is right in
    let moves = is_other s.dest no_rank right.2 in
    record {
      sending = s;
      turn = goes;
      moves = moves;
      asks = ap (asked_in state.site state.memory state.requests state.phases) goes
          ∙ asks_send state.memory (s.dest == no_rank) s.buffer s.count (member state.site s.comm s.dest) s.tag s.comm moves
          ∙ ap ask.Hub (sym asks);
    }

-- ---- it writes nothing

writes_none : (part : Part) (b : Bool) (buffer count dest tag comm : ℕ) → b ≡ false
    → writes_by part
    (begins purpose.Send (if b then transfer.SendToNull else transfer.Send false buffer count dest tag comm)) ≡ []
writes_none part true buffer count dest tag comm h = absurd (cc)
writes_none part false buffer count dest tag comm h = refl

pub has_room : (state : RankState) (hart : ℕ) (request : Request) → Sends state hart request → state.fresh.items ≡ []
    → HasRoom state hart
has_room state hart request sends none =
    let part = part_of (rank_of state) hart in
    let s = sends.sending in
    let writes = ap (λ d. writes_in state.site hart d part) sends.turn
    ∙ writes_none part (s.dest == no_rank) s.buffer s.count (member state.site s.comm s.dest) s.tag s.comm sends.moves in
    let count : vec_len state.fresh ≡ 0 = state.fresh.ok.0 ∙ ap length none in
    let within : vec_len state.out ≤ vec_capacity state.out = state.out.ok.1 in (
      (none ∙ sym (ap (output_of state.memory) sends.turn), omega (arith, count, within)),
      subst (λ rs. IsEnough state.memory.pages state.spares rs) (sym writes) (omega arith),
    )

-- ---- it is over once it has its post

row_over : (site : Site) (part : Part) (b : Bool) (buffer count dest tag comm post : ℕ) (paired : Bool) → b ≡ false
    → told_row site
    (begins purpose.Send (if b then transfer.SendToNull else transfer.Send false buffer count dest tag comm))
    (answer.Reply (reply.Posted post paired)) part ≡ ended code.Ok 0 part
row_over site part true buffer count dest tag comm post paired h = absurd (cc)
row_over site part false buffer count dest tag comm post paired h = refl

told_posted : (state : RankState) (hart stamp post : ℕ) (paired : Bool) (request : Request) → Sends state hart request
    → told (rank_of state) hart (answer.Reply (reply.Posted post paired)) stamp ≡ sent_at (rank_of state) hart stamp
unfolding told
told_posted state hart stamp post paired request sends =
    let part = part_of (rank_of state) hart in
    let s = sends.sending in
    ap (λ x. with_part (rank_of state) hart x stamp)
    (ap (λ d. told_in state.site hart d (answer.Reply (reply.Posted post paired)) part) sends.turn
    ∙ row_over state.site part (s.dest == no_rank) s.buffer s.count (member state.site s.comm s.dest) s.tag s.comm post
    paired sends.moves)

-- no side changes
sides_stay : (rank : Rank) (hart stamp : ℕ) (request : Request) (answered : Reply) (sends : List (ℕ × SendView))
    (recvs : List (ℕ × RecvView)) → AreSides rank.site.version rank.phases rank.clock (sides_in sends recvs)
    → RequestsFit rank.requests rank.phases → rank.clock ≤ stamp
    → Moved rank (sent_at rank hart stamp) (sides_in sends recvs) (sides_in sends recvs) stamp
    (Act.Hub rank.clock request answered)
sides_stay rank hart stamp request answered sends recvs sides fit low = record {
  sides = later rank.site.version rank.phases rank.clock stamp _ low sides;
  fit = fit;
  keys = keys_stay rank.site.version stamp (Act.Hub rank.clock request answered) _ _ refl (λ l p. refl) (λ l p. refl);
  own = λ channels own. own;
}

pub went_posted : (r : Running) (new : RankState) {hart stamp : ℕ} {request : Request} (post : ℕ) (paired : Bool)
    → MaySend r hart request → (r.state.clock < stamp) × (stamp < 2 ^ 62)
    → rank_of new ≡ sent_at (rank_of r.state) hart stamp
    → Went r hart stamp (Act.Hub r.state.clock request (reply.Posted post paired)) new
    (sides_in r.sends.items r.recvs.items)
went_posted r new {hart} {stamp} {request} post paired may stamps is = record {
  there = may.has.there;
  low = stamps.1;
  answers = may.turn.asks;
  stamps = (refl, stamps.0);
  tells = is ∙ sym (told_posted r.state hart stamp post paired request may.turn);
  moved = subst (λ (x : Rank). Moved (rank_of r.state) x (sides_in r.sends.items r.recvs.items)
      (sides_in r.sends.items r.recvs.items) stamp (Act.Hub r.state.clock request (reply.Posted post paired))) (sym is)
      (sides_stay (rank_of r.state) hart stamp request (reply.Posted post paired) r.sends.items r.recvs.items r.sides r.fit
      (omega (arith, stamps.0)));
}
