-- A receive that is posted first, and given its message later.
use Rattle.std.proofs.Common.{◌≡◌, ◌∙◌, ℕ, ◌<◌, refl, sym, ap, subst, Bool, true, false, List, length, Option, Some, None}
use Rattle.std.specs.Prelude.{◌==◌, if◌then◌else◌}
use Rattle.std.proofs.lemmas.List.{get_or-set_same, set-set}
use Rattle.rv_memory.specs.Memory.{Memory}
use Rattle.rv_memory.specs.Access.{word_at}
use Rattle.rv_hart.specs.State.{in_mode}
use Rattle.rv_hart.specs.declared.state.Mode.{Mode}
use Rattle.rv_hart.specs.declared.state.Mode.TheVariants.{Running, Waiting, Ended, Trapped}
use Rattle.rv_hart.specs.declared.state.Wait.TheVariants.{Post, Again}
use Rattle.mp_types.specs.declared.codes.Code.{Code}
use Rattle.mp_types.specs.declared.messages.Message.{Message}
use Rattle.mp_types.specs.declared.replies.Reply.TheVariants as reply
use Rattle.mp_types.specs.declared.requests.Request.TheVariants as request
use Rattle.mp_request.specs.declared.entries.OpenRequest.{OpenRequest}
use Rattle.mp_request.specs.declared.entries.Transfer.{Transfer}
use Rattle.mp_request.specs.declared.entries.Transfer.TheVariants as transfer
use Rattle.mp_request.specs.Table.{Table, request_at}
use Rattle.part_phase.specs.declared.phases.Phase.{Phase}
use Rattle.cl_calls.specs.declared.calls.Call.{Call}
use Rattle.cl_calls.specs.declared.calls.Call.TheVariants as call
use Rattle.cl_calls.specs.declared.calls.Receiving.{Receiving}
use Rattle.cl_calls.specs.declared.sites.Site.{Site}
use Rattle.cl_calls.specs.Calls.{call_named, no_rank}
use Rattle.cl_calls.specs.Site.{members, position_of}
use Rattle.cl_state.specs.declared.asking.Answer.TheVariants as answer
use Rattle.cl_state.specs.declared.asking.Ask.{Ask}
use Rattle.cl_state.specs.declared.asking.Ask.TheVariants as ask
use Rattle.cl_state.specs.declared.asking.Doing.{Doing}
use Rattle.cl_state.specs.declared.asking.Doing.TheVariants.{Step, Go, Poll}
use Rattle.cl_state.specs.declared.pending.Manner.TheVariants.{Posting}
use Rattle.cl_state.specs.declared.pending.Target.{Target}
use Rattle.cl_state.specs.declared.row.Row.TheVariants.{OnReply}
use Rattle.cl_state.specs.declared.row.Wanted.TheVariants as wanted
use Rattle.cl_state.specs.Asked.{Part, asked, asked_by, asked_in, asked_start, checked, doing, doing_in, go_or_refuse, is_ecall, no_hart, part_of}
use Rattle.cl_state.specs.Rank.{Rank}
use Rattle.cl_state.specs.Table.{comes, into, nothing_comes, row_in}
use Rattle.cl_state.specs.Told.{received, received_from, received_message, returned, told, told_row, waiting, with_part}
use Rattle.cl_state.specs.Transfers.{asked_transfer, receive_of, send_of}
use Rattle.cl_post_laws.proofs.Posting.{BeginsTransfer, MakesPost, makes_post}
use Rattle.cl_names_laws.proofs.Told.{row_at}
use Rattle.cl_post_laws.proofs.Renamed.{by_row}

-- ---- who asks for a message now

abbrev IsNow : Ask → Type 0
IsNow (ask.Hub (request.Recv true comm source tag)) = Unit {0}
IsNow _ = ⊥

now_makes : (a : Ask) → IsNow a → MakesPost a
now_makes (ask.Hub (request.Recv true comm source tag)) is = tt
now_makes _ is = absurd is

none_now : (memory : Memory) (t : Transfer) → IsNow (asked_transfer memory false t) → ⊥
none_now memory transfer.SendToNull is = is
none_now memory transfer.ReceiveFromNull is = is
none_now memory (transfer.Send sync buffer count dest tag comm) is = is
none_now memory (transfer.Receive buffer capacity source tag comm) is = is
none_now memory (transfer.ReceiveClaimed buffer capacity) is = is
none_now memory (transfer.SendPartitions side) is = is
none_now memory (transfer.ReceivePartitions side) is = is

sends_now : (memory : Memory) (now b : Bool) (x : Transfer) → (IsNow (asked_transfer memory now x) → ⊥)
    → IsNow (asked_transfer memory now (if b then transfer.SendToNull else x)) → ⊥
sends_now memory now true x no' is = is
sends_now memory now false x no' is = no' is

-- a RECV, of another than the null process
record IsRecv (c : Call) : Type 0 where
  receiving : Receiving
  status : ℕ
  is : c ≡ call.Recv receiving status
  source : (receiving.source == no_rank) ≡ false

module _ (site : Site) (memory : Memory) (table : Table) (phases : List Phase) where
  recv : (r : Receiving) (status : ℕ) (b : Bool) → (r.source == no_rank) ≡ b → (x : Transfer)
      → IsNow (asked_transfer memory true (if b then transfer.ReceiveFromNull else x)) → IsRecv (call.Recv r status)
  recv r status true e x is = absurd is
  recv r status false e x is = record { receiving = r; status = status; is = refl; source = e }

  starts_now : (o : Option OpenRequest) → IsNow (asked_start memory o) → ⊥
  starts_now None is = is
  starts_now (Some r) is = none_now memory r.transfer is

  by_call : (c : Call) → BeginsTransfer c → IsNow (asked_by site memory table phases c) → IsRecv c
  by_call (call.Send s) makes is = absurd (sends_now memory true (s.dest == no_rank) _ (λ x. x) is)
  by_call (call.Ssend s) makes is = absurd (sends_now memory true (s.dest == no_rank) _ (λ x. x) is)
  by_call (call.Recv r status) makes is = recv r status (r.source == no_rank) refl _ is
  by_call (call.Isend s) makes is = absurd (none_now memory (send_of site false s) is)
  by_call (call.Issend s) makes is = absurd (none_now memory (send_of site true s) is)
  by_call (call.Irecv r) makes is = absurd (none_now memory (receive_of site r) is)
  by_call (call.Start handle) makes is = absurd (starts_now (request_at table handle) is)
  by_call _ makes is = absurd makes

  by_doing : (d : Doing) → IsNow (asked_in site memory table phases d) → (c : Call) × (d ≡ Go c) × IsRecv c
  by_doing d is =
      let made = makes_post site memory table phases d (now_makes _ is) in
      (made.0, made.1, by_call made.0 made.2 (subst (λ x. IsNow (asked_in site memory table phases x)) made.1 is))

-- ---- the call that a hart makes is the one that its registers name

named_checked : (site : Site) (part : Part) (c : Call) (o : Option Code)
    → go_or_refuse o (call_named part.hart) ≡ Go c → call_named part.hart ≡ c
named_checked site part c None e = cc
named_checked site part c (Some x) e = absurd (cc)

named_in : (mode : Mode) (site : Site) (part : Part) (c : Call) → doing_in mode site part ≡ Go c
    → call_named part.hart ≡ c
named_in Running site part c e = go (is_ecall (word_at part.memory part.hart.pc)) e
  where
    go : (b : Bool) → (if b then checked site part else Step) ≡ Go c → call_named part.hart ≡ c
    go true e = named_checked site part c _ e
    go false e = absurd (cc)
named_in (Waiting (Post post)) site part c e = absurd (cc)
named_in (Waiting Again) site part c e = named_checked site part c _ e
named_in (Ended code) site part c e = absurd (cc)
named_in (Trapped cause pc) site part c e = absurd (cc)

named : (site : Site) (part : Part) (c : Call) → doing site part ≡ Go c → call_named part.hart ≡ c
unfolding doing
named site part c e = named_in part.hart.mode site part c e

-- ---- the message, whatever the mode of the hart was

received_waiting : (site : Site) (target : Target) (m : Message) (post : ℕ) (part : Part)
    → received_message site target m (waiting post part) ≡ received_message site target m part
unfolding received_message received returned
received_waiting site target m post part = go (position_of m.envelope.source (members site m.envelope.comm))
  where
    go : (o : Option ℕ) → received_from o target m (waiting post part) ≡ received_from o target m part
    go None = refl
    go (Some place) = refl

-- ---- a RECV

module _ (rank : Rank) (hart : ℕ) (comm : ℕ) (source tag : Option ℕ) (there : hart < length rank.harts)
    (asks : asked rank hart ≡ ask.Hub (request.Recv true comm source tag)) where
  abbrev part : Part
  part = part_of rank hart

  makes : (c : Call) × (doing rank.site part ≡ Go c) × IsRecv c
  unfolding asked
  makes =
      by_doing rank.site rank.memory rank.requests rank.phases (doing rank.site (part_of rank hart))
      (subst IsNow (sym asks) tt)

  abbrev receiving : Receiving
  receiving = (makes.2).receiving

  abbrev status : ℕ
  status = (makes.2).status

  abbrev target : Target
  target = into receiving.buffer receiving.capacity status

  doing_is : doing rank.site part ≡ Go (call.Recv receiving status)
  doing_is = makes.1 ∙ ap Go (makes.2).is

  named_is : call_named part.hart ≡ call.Recv receiving status
  named_is = named rank.site part (call.Recv receiving status) doing_is

  row_is : row_at rank hart ≡ OnReply Posting (wanted.MessageOrPost target)
  row_is =
      ap (row_in rank.site hart rank.memory rank.requests rank.phases) doing_is
      ∙ ap (λ b. if b then nothing_comes target else comes target) (makes.2).source

  -- the hart waits for its post
  abbrev posted : ℕ → ℕ → Rank
  posted post before = with_part rank hart (waiting post part) before

  posted_is : (post before : ℕ)
      → told rank hart (answer.Reply (reply.Posted post false)) before ≡ posted post before
  posted_is post before =
      by_row rank hart (answer.Reply (reply.Posted post false)) before
      ∙ ap (λ x. with_part rank hart (told_row rank.site x (answer.Reply (reply.Posted post false)) part) before) row_is

  part_is : (post before : ℕ) → part_of (posted post before) hart ≡ waiting post part
  part_is post before = λ k. record {
    hart = get_or-set_same rank.harts hart (in_mode part.hart (Waiting (Post post))) no_hart there k;
    memory = rank.memory;
    requests = rank.requests;
    phases = rank.phases;
    out = rank.out;
  }

  waits_is : (post : ℕ) → doing rank.site (waiting post part) ≡ Poll (call_named part.hart) post
  unfolding doing
  waits_is post = refl

  polling : (post before : ℕ) → doing rank.site (part_of (posted post before) hart) ≡ Poll (call.Recv receiving status) post
  polling post before =
      ap (doing rank.site) (part_is post before) ∙ waits_is post ∙ ap (λ c. Poll c post) named_is

  asks_posted : (post before : ℕ) → asked (posted post before) hart ≡ ask.Hub (request.Collect post)
  unfolding asked
  asks_posted post before =
      ap (asked_in rank.site rank.memory rank.requests rank.phases) (polling post before)

  pub polls : (post before : ℕ)
      → asked (told rank hart (answer.Reply (reply.Posted post false)) before) hart ≡ ask.Hub (request.Collect post)
  polls post before = ap (λ x. asked x hart) (posted_is post before) ∙ asks_posted post before

  -- and it waits for that post
  pub waits : (post before : ℕ)
      → (part_of (told rank hart (answer.Reply (reply.Posted post false)) before) hart).hart.mode ≡ Waiting (Post post)
  waits post before =
      ap (λ x. (part_of x hart).hart.mode) (posted_is post before)
      ∙ ap (λ (p : Part). p.hart.mode) (part_is post before)

  pub later : (post before stamp : ℕ) (m : Message)
      → told (told rank hart (answer.Reply (reply.Posted post false)) before) hart (answer.Reply (reply.Got m)) stamp
      ≡ told rank hart (answer.Reply (reply.Got m)) stamp
  later post before stamp m =
      ap (λ x. told x hart (answer.Reply (reply.Got m)) stamp) (posted_is post before)
      ∙ by_row (posted post before) hart (answer.Reply (reply.Got m)) stamp
      ∙ ap (λ d. with_part (posted post before) hart
      (told_row rank.site (row_in rank.site hart rank.memory rank.requests rank.phases d) (answer.Reply (reply.Got m))
      (part_of (posted post before) hart)) stamp) (polling post before)
      ∙ ap (λ p. with_part (posted post before) hart (received_message rank.site target m p) stamp) (part_is post before)
      ∙ ap (λ p. with_part (posted post before) hart p stamp) (received_waiting rank.site target m post part)
      ∙ ap (λ hs. record rank {
        memory = after.memory;
        harts = hs;
        requests = after.requests;
        phases = after.phases;
        out = after.out;
        clock = stamp;
      }) (set-set rank.harts hart (in_mode part.hart (Waiting (Post post))) after.hart)
      ∙ sym (by_row rank hart (answer.Reply (reply.Got m)) stamp
      ∙ ap (λ x. with_part rank hart (told_row rank.site x (answer.Reply (reply.Got m)) part) stamp) row_is)
    where
      after : Part
      after = received_message rank.site target m part
