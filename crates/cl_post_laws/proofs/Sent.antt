-- A standard send, of which its rank asks nothing more, since it is complete when it is posted.
use Rattle.std.proofs.Common.{◌≡◌, ◌∙◌, ℕ, refl, sym, ap, subst, Bool, true, false, List, Option, Some, None}
use Rattle.std.specs.Prelude.{◌==◌, if◌then◌else◌}
use Rattle.rv_memory.specs.Memory.{Memory}
use Rattle.mp_types.specs.declared.replies.Reply.TheVariants as reply
use Rattle.mp_types.specs.declared.requests.Request.TheVariants as request
use Rattle.mp_request.specs.declared.entries.OpenRequest.{OpenRequest}
use Rattle.mp_request.specs.declared.entries.Transfer.{Transfer}
use Rattle.mp_request.specs.declared.entries.Transfer.TheVariants as transfer
use Rattle.mp_request.specs.Table.{Table, request_at}
use Rattle.part_phase.specs.declared.phases.Phase.{Phase}
use Rattle.cl_calls.specs.declared.calls.Call.{Call}
use Rattle.cl_calls.specs.declared.calls.Call.TheVariants as call
use Rattle.cl_calls.specs.declared.sites.Site.{Site}
use Rattle.cl_calls.specs.Calls.{no_rank}
use Rattle.cl_state.specs.declared.asking.Answer.{Answer}
use Rattle.cl_state.specs.declared.asking.Answer.TheVariants as answer
use Rattle.cl_state.specs.declared.asking.Ask.{Ask}
use Rattle.cl_state.specs.declared.asking.Ask.TheVariants as ask
use Rattle.cl_state.specs.declared.asking.Doing.{Doing}
use Rattle.cl_state.specs.declared.row.Purpose.{Purpose}
use Rattle.cl_state.specs.declared.row.Purpose.TheVariants as purpose
use Rattle.cl_state.specs.declared.row.Row.{Row}
use Rattle.cl_state.specs.Asked.{asked, asked_by, asked_in, asked_start, doing, part_of}
use Rattle.cl_state.specs.Rank.{Rank}
use Rattle.cl_state.specs.Table.{begins, row_in, row_of, starts}
use Rattle.cl_state.specs.Told.{told}
use Rattle.cl_state.specs.Transfers.{asked_transfer, receive_of, send_of}
use Rattle.mp_alike_laws.specs.Renaming.{Renaming}
use Rattle.cl_names_laws.proofs.Told.{IsSameAt, row_at, tells_at}
use Rattle.cl_post_laws.specs.Names.{AwaitsOnly, as_before}
use Rattle.cl_post_laws.proofs.Posting.{BeginsTransfer, MakesPost, makes_post}

-- ---- who asks for a standard send

abbrev IsStandard : Ask → Type 0
IsStandard (ask.Hub (request.Send false comm dest tag bytes)) = Unit {0}
IsStandard _ = ⊥

standard_makes : (a : Ask) → IsStandard a → MakesPost a
standard_makes (ask.Hub (request.Send false comm dest tag bytes)) is = tt
standard_makes _ is = absurd is

-- ---- its row

abbrev complete : ℕ → Answer
complete post = answer.Reply (reply.Posted post true)

-- told that its post is complete, it awaits none
abbrev Forgets : Row → Type 0
Forgets row = (names : Renaming) (post : ℕ) → IsSameAt names (as_before names) row (complete post)

begun : (memory : Memory) (now : Bool) (why : Purpose) (t : Transfer) → IsStandard (asked_transfer memory now t)
    → Forgets (begins why t)
begun memory now why (transfer.Send false buffer count dest tag comm) is = λ names post. refl
begun memory now why _ is = absurd is

started : (memory : Memory) (handle : ℕ) (o : Option OpenRequest) → IsStandard (asked_start memory o)
    → Forgets (starts handle o)
started memory handle None is = absurd is
started memory handle (Some r) is = begun memory false (purpose.Start handle) r.transfer is

received : (memory : Memory) (b : Bool) (buffer capacity : ℕ) (source tag : Option ℕ) (comm : ℕ)
    → IsStandard (asked_transfer memory true
    (if b then transfer.ReceiveFromNull else transfer.Receive buffer capacity source tag comm)) → ⊥
received memory true buffer capacity source tag comm is = is
received memory false buffer capacity source tag comm is = is

module _ (site : Site) (hart : ℕ) (memory : Memory) (table : Table) (phases : List Phase) where
  by_call : (c : Call) → BeginsTransfer c → IsStandard (asked_by site memory table phases c)
      → Forgets (row_of site hart memory table phases c)
  by_call (call.Send s) makes is = begun memory true purpose.Send (send_of site false s) is
  by_call (call.Ssend s) makes is = begun memory true purpose.Send (send_of site true s) is
  by_call (call.Recv r status) makes is = absurd (received memory (r.source == no_rank) _ _ _ _ _ is)
  by_call (call.Isend s) makes is = begun memory false purpose.Open (send_of site false s) is
  by_call (call.Issend s) makes is = begun memory false purpose.Open (send_of site true s) is
  by_call (call.Irecv r) makes is = begun memory false purpose.Open (receive_of site r) is
  by_call (call.Start handle) makes is = started memory handle (request_at table handle) is
  by_call _ makes is = absurd makes

  by_doing : (d : Doing) → IsStandard (asked_in site memory table phases d)
      → Forgets (row_in site hart memory table phases d)
  by_doing d is =
      let made = makes_post site memory table phases d (standard_makes _ is) in
      subst (λ x. Forgets (row_in site hart memory table phases x)) (sym made.1)
      (by_call made.0 made.2 (subst (λ x. IsStandard (asked_in site memory table phases x)) made.1 is))

-- ---- a rank

pub forgets : (set : ℕ → Bool) (rank : Rank) (hart comm dest tag : ℕ) (bytes : List ℕ) (post stamp : ℕ)
    → asked rank hart ≡ ask.Hub (request.Send false comm dest tag bytes) → AwaitsOnly set rank
    → AwaitsOnly set (told rank hart (complete post) stamp)
unfolding asked
forgets set rank hart comm dest tag bytes post stamp asks old names keeps =
    sym (tells_at names (as_before names) rank hart (complete post) stamp (row names post))
    ∙ ap (λ x. told x hart (complete post) stamp) (old names keeps)
  where
    row : Forgets (row_at rank hart)
    row =
        by_doing rank.site hart rank.memory rank.requests rank.phases (doing rank.site (part_of rank hart))
        (subst IsStandard (sym asks) tt)
