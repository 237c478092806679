-- An SSEND that is posted first, and complete later.
use Rattle.std.proofs.Common.{◌≡◌, ◌∙◌, ℕ, ◌<◌, refl, sym, ap, Bool, true, false, length, Option, Some, None}
use Rattle.std.specs.Prelude.{◌==◌, if◌then◌else◌}
use Rattle.std.proofs.lemmas.List.{get_or-set_same, set-set}
use Rattle.rv_memory.specs.Memory.{Memory}
use Rattle.rv_memory.specs.Access.{word_at}
use Rattle.rv_hart.specs.State.{in_mode}
use Rattle.rv_hart.specs.declared.state.Mode.{Mode}
use Rattle.rv_hart.specs.declared.state.Mode.TheVariants.{Running, Waiting, Ended, Trapped}
use Rattle.rv_hart.specs.declared.state.Wait.TheVariants.{Post, Again}
use Rattle.mp_types.specs.declared.codes.Code.{Code}
use Rattle.mp_types.specs.declared.codes.Code.TheVariants as code
use Rattle.mp_types.specs.declared.replies.Reply.TheVariants as reply
use Rattle.mp_types.specs.declared.requests.Request.{Request}
use Rattle.mp_types.specs.declared.requests.Request.TheVariants as request
use Rattle.mp_request.specs.declared.entries.Transfer.{Transfer}
use Rattle.mp_request.specs.declared.entries.Transfer.TheVariants as transfer
use Rattle.cl_calls.specs.declared.calls.Call.{Call}
use Rattle.cl_calls.specs.declared.calls.Call.TheVariants as call
use Rattle.cl_calls.specs.declared.calls.Sending.{Sending}
use Rattle.cl_calls.specs.declared.sites.Site.{Site}
use Rattle.cl_calls.specs.Calls.{call_named, no_rank}
use Rattle.cl_calls.specs.Site.{member}
use Rattle.cl_state.specs.declared.asking.Answer.TheVariants as answer
use Rattle.cl_state.specs.declared.asking.Ask.TheVariants as ask
use Rattle.cl_state.specs.declared.asking.Doing.{Doing}
use Rattle.cl_state.specs.declared.asking.Doing.TheVariants.{Step, Go, Poll}
use Rattle.cl_state.specs.declared.pending.Manner.TheVariants.{Posting}
use Rattle.cl_state.specs.declared.row.Purpose.TheVariants as purpose
use Rattle.cl_state.specs.declared.row.Row.TheVariants.{OnReply}
use Rattle.cl_state.specs.declared.row.Wanted.TheVariants as wanted
use Rattle.cl_state.specs.Asked.{Part, asked, asked_in, checked, doing, doing_in, go_or_refuse, is_ecall, no_hart, part_of}
use Rattle.cl_state.specs.Rank.{Rank}
use Rattle.cl_state.specs.Table.{begins, row_in}
use Rattle.cl_state.specs.Told.{ended, returned, told, told_row, waiting, with_part}
use Rattle.cl_state.specs.Transfers.{asked_transfer}
use Rattle.cl_names_laws.proofs.Told.{row_at}
use Rattle.cl_post_laws.proofs.Renamed.{by_row}
use Rattle.cl_way_laws.proofs.SyncSends.{IsSsend}

-- ---- the call that a hart makes is the one that its registers name

named_checked : (site : Site) (part : Part) (c : Call) (o : Option Code)
    → go_or_refuse o (call_named part.hart) ≡ Go c → call_named part.hart ≡ c
named_checked site part c None e = cc
named_checked site part c (Some x) e = absurd (cc)

named_in : (mode : Mode) (site : Site) (part : Part) (c : Call) → doing_in mode site part ≡ Go c
    → call_named part.hart ≡ c
named_in Running site part c e = go (is_ecall (word_at part.memory part.hart.pc)) e
  where
    go : (b : Bool) → (if b then checked site part else Step) ≡ Go c → call_named part.hart ≡ c
    go true e = named_checked site part c _ e
    go false e = absurd (cc)
named_in (Waiting (Post post)) site part c e = absurd (cc)
named_in (Waiting Again) site part c e = named_checked site part c _ e
named_in (Ended code) site part c e = absurd (cc)
named_in (Trapped cause pc) site part c e = absurd (cc)

named : (site : Site) (part : Part) (c : Call) → doing site part ≡ Go c → call_named part.hart ≡ c
unfolding doing
named site part c e = named_in part.hart.mode site part c e

-- ---- which call it is

makes_ssend : (d : Doing) → IsSsend d → (s : Sending) × (d ≡ Go (call.Ssend s))
makes_ssend (Go (call.Ssend s)) is = (s, refl)
makes_ssend _ is = absurd is

-- a call to the null process asks nobody
to_another : (memory : Memory) (b : Bool) (t : Transfer) (q : Request)
    → asked_transfer memory true (if b then transfer.SendToNull else t) ≡ ask.Hub q → b ≡ false
to_another memory true t q e = absurd (cc)
to_another memory false t q e = refl

-- a call that returns, whatever the mode of the hart was
ended_waiting : (post : ℕ) (part : Part) → ended code.Ok 0 (waiting post part) ≡ ended code.Ok 0 part
unfolding returned
ended_waiting post part = refl

-- ---- an SSEND

module _ (rank : Rank) (hart : ℕ) (q : Request) (there : hart < length rank.harts) (asks : asked rank hart ≡ ask.Hub q)
    (is : IsSsend (doing rank.site (part_of rank hart))) where
  abbrev part : Part
  part = part_of rank hart

  abbrev sending : Sending
  sending = (makes_ssend (doing rank.site part) is).0

  doing_is : doing rank.site part ≡ Go (call.Ssend sending)
  doing_is = (makes_ssend (doing rank.site part) is).1

  named_is : call_named part.hart ≡ call.Ssend sending
  named_is = named rank.site part (call.Ssend sending) doing_is

  dest_is : (sending.dest == no_rank) ≡ false
  unfolding asked
  dest_is =
      to_another rank.memory (sending.dest == no_rank) _ q
      (ap (asked_in rank.site rank.memory rank.requests rank.phases) (sym doing_is) ∙ asks)

  abbrev sent : Transfer
  sent =
      transfer.Send true sending.buffer sending.count (member rank.site sending.comm sending.dest) sending.tag
      sending.comm

  row_is : row_at rank hart ≡ OnReply Posting (wanted.Post purpose.Send sent)
  row_is =
      ap (row_in rank.site hart rank.memory rank.requests rank.phases) doing_is
      ∙ ap (λ (b : Bool). begins purpose.Send (if b then transfer.SendToNull else sent)) dest_is

  -- the hart waits for its post
  abbrev posted : ℕ → ℕ → Rank
  posted post before = with_part rank hart (waiting post part) before

  pub posted_is : (post before : ℕ)
      → told rank hart (answer.Reply (reply.Posted post false)) before ≡ posted post before
  posted_is post before =
      by_row rank hart (answer.Reply (reply.Posted post false)) before
      ∙ ap (λ x. with_part rank hart (told_row rank.site x (answer.Reply (reply.Posted post false)) part) before) row_is

  part_is : (post before : ℕ) → part_of (posted post before) hart ≡ waiting post part
  part_is post before = λ k. record {
    hart = get_or-set_same rank.harts hart (in_mode part.hart (Waiting (Post post))) no_hart there k;
    memory = rank.memory;
    requests = rank.requests;
    phases = rank.phases;
    out = rank.out;
  }

  waits_is : (post : ℕ) → doing rank.site (waiting post part) ≡ Poll (call_named part.hart) post
  unfolding doing
  waits_is post = refl

  polling : (post before : ℕ) → doing rank.site (part_of (posted post before) hart) ≡ Poll (call.Ssend sending) post
  polling post before =
      ap (doing rank.site) (part_is post before) ∙ waits_is post ∙ ap (λ c. Poll c post) named_is

  asks_posted : (post before : ℕ) → asked (posted post before) hart ≡ ask.Hub (request.Finished post)
  unfolding asked
  asks_posted post before =
      ap (asked_in rank.site rank.memory rank.requests rank.phases) (polling post before)

  -- it asks whether its send is complete
  pub polls : (post before : ℕ)
      → asked (told rank hart (answer.Reply (reply.Posted post false)) before) hart ≡ ask.Hub (request.Finished post)
  polls post before = ap (λ x. asked x hart) (posted_is post before) ∙ asks_posted post before

  -- and it waits for that post
  pub waits : (post before : ℕ)
      → (part_of (told rank hart (answer.Reply (reply.Posted post false)) before) hart).hart.mode ≡ Waiting (Post post)
  waits post before =
      ap (λ x. (part_of x hart).hart.mode) (posted_is post before)
      ∙ ap (λ (p : Part). p.hart.mode) (part_is post before)

  -- told so, it is where it would be if its send had been complete as it was made
  pub later : (post before stamp : ℕ)
      → told (told rank hart (answer.Reply (reply.Posted post false)) before) hart (answer.Reply reply.Done) stamp
      ≡ told rank hart (answer.Reply (reply.Posted post true)) stamp
  later post before stamp =
      ap (λ x. told x hart (answer.Reply reply.Done) stamp) (posted_is post before)
      ∙ by_row (posted post before) hart (answer.Reply reply.Done) stamp
      ∙ ap (λ d. with_part (posted post before) hart
      (told_row rank.site (row_in rank.site hart rank.memory rank.requests rank.phases d) (answer.Reply reply.Done)
      (part_of (posted post before) hart)) stamp) (polling post before)
      ∙ ap (λ p. with_part (posted post before) hart (ended code.Ok 0 p) stamp) (part_is post before)
      ∙ ap (λ p. with_part (posted post before) hart p stamp) (ended_waiting post part)
      ∙ ap (λ hs. record rank {
        memory = after.memory;
        harts = hs;
        requests = after.requests;
        phases = after.phases;
        out = after.out;
        clock = stamp;
      }) (set-set rank.harts hart (in_mode part.hart (Waiting (Post post))) after.hart)
      ∙ sym (by_row rank hart (answer.Reply (reply.Posted post true)) stamp
      ∙ ap (λ x. with_part rank hart (told_row rank.site x (answer.Reply (reply.Posted post true)) part) stamp) row_is)
    where
      after : Part
      after = ended code.Ok 0 part
