-- Which calls ask for a new post: those that begin a transfer, and no others.
use Rattle.std.proofs.Common.{◌≡◌, ℕ, refl, Bool, true, false, List, [], ◌∷◌, Option, Some, None}
use Rattle.std.specs.Prelude.{◌==◌, if◌then◌else◌}
use Rattle.rv_memory.specs.Memory.{Memory}
use Rattle.mp_clash_laws.specs.Exchanges.{IsPosting}
use Rattle.mp_request.specs.declared.entries.Partitions.{Partitions}
use Rattle.mp_request.specs.Table.{Table, request_at}
use Rattle.part_phase.specs.declared.phases.Phase.{Phase}
use Rattle.part_phase.specs.Phases.{receiving_at}
use Rattle.cl_calls.specs.declared.calls.Call.{Call}
use Rattle.cl_calls.specs.declared.calls.Call.TheVariants as call
use Rattle.cl_calls.specs.declared.sites.Site.{Site}
use Rattle.cl_calls.specs.Calls.{no_message, no_rank}
use Rattle.cl_calls.specs.Checks.{receiving_side, sending_side}
use Rattle.cl_calls.specs.Handles.{handles_in}
use Rattle.cl_calls.specs.Needs.{array_at}
use Rattle.cl_state.specs.declared.asking.Ask.{Ask}
use Rattle.cl_state.specs.declared.asking.Ask.TheVariants as ask
use Rattle.cl_state.specs.declared.asking.Doing.{Doing}
use Rattle.cl_state.specs.declared.asking.Doing.TheVariants.{Step, Refused, Go, Poll, Stopped}
use Rattle.cl_state.specs.declared.partitions.Awaited.{Awaited}
use Rattle.cl_state.specs.declared.partitions.Awaited.TheVariants as awaited_word
use Rattle.cl_state.specs.declared.pending.Manner.{Manner}
use Rattle.cl_state.specs.declared.pending.Manner.TheVariants.{Immediate, Blocking}
use Rattle.cl_state.specs.declared.pending.Pending.{Pending}
use Rattle.cl_state.specs.declared.pending.Pending.TheVariants as pending
use Rattle.cl_state.specs.Asked.{asked_by, asked_completing, asked_in, asked_poll}
use Rattle.cl_state.specs.Partitions.{asked_arrived, asked_awaited, asked_ready, awaited, awaited_of_part}
use Rattle.cl_state.specs.Pending.{asked_pending, pending_of}
use Rattle.cl_state.specs.Several.{asked_all, pendings, posts_pending}

-- ---- what asks for a post, and what asks for none

abbrev pub MakesPost : Ask → Type 0
MakesPost (ask.Hub q) = IsPosting q
MakesPost _ = ⊥

none_awaited : (m : Manner) (a : Awaited) → MakesPost (asked_awaited m a) → ⊥
none_awaited Immediate awaited_word.Nothing is = is
none_awaited Immediate awaited_word.Unready is = is
none_awaited Immediate (awaited_word.Taking link part) is = is
none_awaited Immediate (awaited_word.Cut link) is = is
none_awaited Immediate (awaited_word.Box link box) is = is
none_awaited m awaited_word.Nothing is = is
none_awaited m awaited_word.Unready is = is
none_awaited m (awaited_word.Taking link part) is = is
none_awaited m (awaited_word.Cut link) is = is
none_awaited m (awaited_word.Box link box) is = is

none_pending : (p : Pending) → MakesPost (asked_pending p) → ⊥
none_pending pending.Nothing is = is
none_pending pending.FromNull is = is
none_pending (pending.Message post buffer capacity) is = is
none_pending (pending.Word post) is = is

none_completing : (m : Manner) (a : Option Awaited) (p : Pending) → MakesPost (asked_completing m a p) → ⊥
none_completing m (Some a) p is = none_awaited m a is
none_completing m None p is = none_pending p is

none_of_all : (posts : List ℕ) → MakesPost (asked_all posts) → ⊥
none_of_all [] is = is
none_of_all (post ∷ posts) is = is

none_of_either : (b : Bool) (x y : Ask) → (MakesPost x → ⊥) → (MakesPost y → ⊥) → MakesPost (if b then x else y) → ⊥
none_of_either true x y f g is = f is
none_of_either false x y f g is = g is

-- ---- calls

-- the call begins a transfer, of its own or of a request
abbrev pub BeginsTransfer : Call → Type 0
BeginsTransfer (call.Send s) = Unit {0}
BeginsTransfer (call.Ssend s) = Unit {0}
BeginsTransfer (call.Recv r status) = Unit {0}
BeginsTransfer (call.Isend s) = Unit {0}
BeginsTransfer (call.Issend s) = Unit {0}
BeginsTransfer (call.Irecv r) = Unit {0}
BeginsTransfer (call.Start handle) = Unit {0}
BeginsTransfer _ = ⊥

module _ (site : Site) (memory : Memory) (table : Table) (phases : List Phase) where
  none_ready : (part : ℕ) (o : Option Partitions) → MakesPost (asked_ready site memory part o) → ⊥
  none_ready part None is = is
  none_ready part (Some side) is = is

  none_arrived : (part : ℕ) (o : Option Partitions) → MakesPost (asked_arrived phases part o) → ⊥
  none_arrived part None is = is
  none_arrived part (Some side) is =
      none_awaited Immediate (awaited_of_part side.link (receiving_at phases side.link) part) is

  begins : (c : Call) → MakesPost (asked_by site memory table phases c) → BeginsTransfer c
  begins (call.Send s) is = tt
  begins (call.Ssend s) is = tt
  begins (call.Recv r status) is = tt
  begins (call.Isend s) is = tt
  begins (call.Issend s) is = tt
  begins (call.Irecv r) is = tt
  begins (call.Test c) is =
      absurd (none_completing Immediate (awaited phases (request_at table c.handle)) (pending_of (request_at table c.handle)) is)
  begins (call.Wait c) is =
      absurd (none_completing Blocking (awaited phases (request_at table c.handle)) (pending_of (request_at table c.handle)) is)
  begins (call.Iprobe p) is = absurd (none_of_either (p.source == no_rank) _ _ (λ x. x) (λ x. x) is)
  begins (call.Probe p) is = absurd (none_of_either (p.source == no_rank) _ _ (λ x. x) (λ x. x) is)
  begins (call.Improbe p) is = absurd (none_of_either (p.source == no_rank) _ _ (λ x. x) (λ x. x) is)
  begins (call.Mprobe p) is = absurd (none_of_either (p.source == no_rank) _ _ (λ x. x) (λ x. x) is)
  begins (call.Imrecv m) is = absurd (none_of_either (m.message == no_message) _ _ (λ x. x) (λ x. x) is)
  begins (call.Mrecv m status) is = absurd (none_of_either (m.message == no_message) _ _ (λ x. x) (λ x. x) is)
  begins (call.Start handle) is = tt
  begins (call.Testall s) is =
      absurd (none_of_all (posts_pending (pendings table (handles_in memory (array_at s.array s.count)))) is)
  begins (call.Waitall s) is =
      absurd (none_of_all (posts_pending (pendings table (handles_in memory (array_at s.array s.count)))) is)
  begins (call.Pready handle part) is = absurd (none_ready part (sending_side (request_at table handle)) is)
  begins (call.Parrived handle part) is = absurd (none_arrived part (receiving_side (request_at table handle)) is)
  begins _ is = absurd is

  none_polled : (c : Call) (post : ℕ) → MakesPost (asked_poll c post) → ⊥
  none_polled (call.Ssend s) post is = is
  none_polled _ post is = is

  pub makes_post : (d : Doing) → MakesPost (asked_in site memory table phases d)
      → (c : Call) × (d ≡ Go c) × BeginsTransfer c
  makes_post Step is = absurd is
  makes_post (Refused code) is = absurd is
  makes_post (Go c) is = (c, refl, begins c is)
  makes_post (Poll c post) is = absurd (none_polled c post is)
  makes_post Stopped is = absurd is
