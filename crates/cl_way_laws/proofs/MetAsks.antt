-- What a hart asks where synchronous sends that have a receive are complete: the same, but in calls that complete them.
use Rattle.std.proofs.Common.{◌≡◌, ◌∙◌, ℕ, refl, ap, Bool, true, false, List, length, Option, Some, None}
use Rattle.std.specs.Prelude.{if◌then◌else◌}
use Rattle.std.specs.Option.{option_map}
use Rattle.rv_memory.specs.Memory.{Memory}
use Rattle.rv_memory.specs.Access.{word_at}
use Rattle.rv_hart.specs.declared.state.Mode.{Mode}
use Rattle.rv_hart.specs.declared.state.Mode.TheVariants.{Running, Waiting, Ended, Trapped}
use Rattle.rv_hart.specs.declared.state.Wait.TheVariants.{Post, Again}
use Rattle.mp_request.specs.declared.entries.OpenRequest.{OpenRequest}
use Rattle.mp_request.specs.declared.entries.State.{State as RequestState}
use Rattle.mp_request.specs.declared.entries.State.TheVariants.{Ordinary, Inactive, Active}
use Rattle.mp_request.specs.declared.entries.Transfer.{Transfer}
use Rattle.mp_request.specs.Table.{Table, request_at}
use Rattle.part_phase.specs.declared.phases.Phase.{Phase}
use Rattle.cl_calls.specs.declared.calls.Call.{Call}
use Rattle.cl_calls.specs.declared.calls.Call.TheVariants as call
use Rattle.cl_calls.specs.declared.calls.Several.{Several}
use Rattle.cl_calls.specs.declared.sites.Site.{Site}
use Rattle.cl_calls.specs.Calls.{call_named}
use Rattle.cl_calls.specs.Checks.{first_fault}
use Rattle.cl_calls.specs.Handles.{handles_in}
use Rattle.cl_calls.specs.Needs.{array_at, needs_of}
use Rattle.cl_state.specs.declared.asking.Doing.{Doing}
use Rattle.cl_state.specs.declared.asking.Doing.TheVariants.{Step, Refused, Go, Poll, Stopped}
use Rattle.cl_state.specs.declared.pending.Manner.{Manner}
use Rattle.cl_state.specs.declared.pending.Manner.TheVariants.{Immediate, Blocking}
use Rattle.cl_state.specs.Asked.{Part, asked, asked_by, asked_completing, asked_in, asked_several, asked_start, checked, doing, doing_in, go_or_refuse, is_ecall, part_of}
use Rattle.cl_state.specs.Partitions.{asked_arrived, asked_ready, awaited, awaited_at}
use Rattle.cl_state.specs.Pending.{pending_of}
use Rattle.cl_state.specs.Rank.{Rank}
use Rattle.cl_state.specs.Several.{asked_all, pendings, posts_pending}
use Rattle.cl_way_laws.specs.Met.{met_by, met_open, met_state, met_table}
use Rattle.cl_way_laws.proofs.MetTables.{checks_met, receiving_met, request_met, sending_met}

abbrev pub met_part : (ℕ → Bool) → Part → Part
met_part d part = record part { requests = met_table d part.requests }

module _ (d : ℕ → Bool) where
  -- a request needs the same
  abbrev pub NeedsSame : Table → ℕ → Type 0
  NeedsSame table handle =
      pending_of (request_at (met_table d table) handle) ≡ pending_of (request_at table handle)

  abbrev pub AllNeedSame : Table → List ℕ → Type 0
  AllNeedSame table handles = pendings (met_table d table) handles ≡ pendings table handles

  -- and so do all that a call may complete
  abbrev pub CallsSame : Memory → Table → Call → Type 0
  CallsSame memory table (call.Test c) = NeedsSame table c.handle
  CallsSame memory table (call.Wait c) = NeedsSame table c.handle
  CallsSame memory table (call.Testall s) = AllNeedSame table (handles_in memory (array_at s.array s.count))
  CallsSame memory table (call.Waitall s) = AllNeedSame table (handles_in memory (array_at s.array s.count))
  CallsSame memory table _ = Unit {0}

  abbrev pub DoesSame : Memory → Table → Doing → Type 0
  DoesSame memory table (Go c) = CallsSame memory table c
  DoesSame memory table _ = Unit {0}

  -- ---- what is awaited

  awaited_in_by : (phases : List Phase) (s : RequestState) (t : Transfer)
      → awaited_at phases (met_state d t s) t ≡ awaited_at phases s t
  awaited_in_by phases (Ordinary p) t = refl
  awaited_in_by phases Inactive t = refl
  awaited_in_by phases (Active p) t = refl

  awaited_by_by : (phases : List Phase) (o : Option OpenRequest)
      → awaited phases (option_map (met_open d) o) ≡ awaited phases o
  awaited_by_by phases None = refl
  awaited_by_by phases (Some r) = awaited_in_by phases r.state r.transfer

  pub awaited_met : (phases : List Phase) (table : Table) (handle : ℕ)
      → awaited phases (request_at (met_table d table) handle) ≡ awaited phases (request_at table handle)
  awaited_met phases table handle =
      ap (awaited phases) (request_met d table handle) ∙ awaited_by_by phases (request_at table handle)

  -- ---- what a call asks

  start_asked : (memory : Memory) (o : Option OpenRequest)
      → asked_start memory (option_map (met_open d) o) ≡ asked_start memory o
  start_asked memory None = refl
  start_asked memory (Some r) = refl

  completing_met : (m : Manner) (phases : List Phase) (table : Table) (handle : ℕ) → NeedsSame table handle
      → asked_completing m (awaited phases (request_at (met_table d table) handle))
      (pending_of (request_at (met_table d table) handle))
      ≡ asked_completing m (awaited phases (request_at table handle)) (pending_of (request_at table handle))
  completing_met m phases table handle same =
      ap (λ o. asked_completing m o (pending_of (request_at (met_table d table) handle)))
      (awaited_met phases table handle)
      ∙ ap (asked_completing m (awaited phases (request_at table handle))) same

  several_asked : (memory : Memory) (table : Table) (s : Several)
      → AllNeedSame table (handles_in memory (array_at s.array s.count))
      → asked_several memory (met_table d table) s ≡ asked_several memory table s
  several_asked memory table s same = ap (λ ps. asked_all (posts_pending ps)) same

  call_asked : (site : Site) (memory : Memory) (table : Table) (phases : List Phase) (c : Call)
      → CallsSame memory table c
      → asked_by site memory (met_table d table) phases c ≡ asked_by site memory table phases c
  call_asked site memory table phases (call.Test c) same = completing_met Immediate phases table c.handle same
  call_asked site memory table phases (call.Wait c) same = completing_met Blocking phases table c.handle same
  call_asked site memory table phases (call.Start handle) same =
      ap (asked_start memory) (request_met d table handle) ∙ start_asked memory (request_at table handle)
  call_asked site memory table phases (call.Testall s) same = several_asked memory table s same
  call_asked site memory table phases (call.Waitall s) same = several_asked memory table s same
  call_asked site memory table phases (call.Pready handle part) same =
      ap (asked_ready site memory part) (sending_met d table handle)
  call_asked site memory table phases (call.Parrived handle part) same =
      ap (asked_arrived phases part) (receiving_met d table handle)
  call_asked site memory table phases _ same = refl

  in_asked : (site : Site) (memory : Memory) (table : Table) (phases : List Phase) (does : Doing)
      → DoesSame memory table does
      → asked_in site memory (met_table d table) phases does ≡ asked_in site memory table phases does
  in_asked site memory table phases Step same = refl
  in_asked site memory table phases (Refused code) same = refl
  in_asked site memory table phases (Go c) same = call_asked site memory table phases c same
  in_asked site memory table phases (Poll c post) same = refl
  in_asked site memory table phases Stopped same = refl

  -- ---- what a hart is about to do

  checked_met : (site : Site) (part : Part) → checked site (met_part d part) ≡ checked site part
  checked_met site part =
      ap (λ cs. go_or_refuse (first_fault cs) (call_named part.hart))
      (checks_met d site part.memory part.requests part.phases (length part.out) (needs_of (call_named part.hart)))

  running_met : (b : Bool) (site : Site) (part : Part)
      → (if b then checked site (met_part d part) else Step) ≡ (if b then checked site part else Step)
  running_met true site part = checked_met site part
  running_met false site part = refl

  mode_doing : (mode : Mode) (site : Site) (part : Part) → doing_in mode site (met_part d part)
      ≡ doing_in mode site part
  mode_doing Running site part = running_met (is_ecall (word_at part.memory part.hart.pc)) site part
  mode_doing (Waiting (Post post)) site part = refl
  mode_doing (Waiting Again) site part = checked_met site part
  mode_doing (Ended code) site part = refl
  mode_doing (Trapped cause pc) site part = refl

  pub doing_met : (site : Site) (part : Part) → doing site (met_part d part) ≡ doing site part
  unfolding doing
  doing_met site part = mode_doing part.hart.mode site part

  pub asks_met : (rank : Rank) (hart : ℕ) → DoesSame rank.memory rank.requests (doing rank.site (part_of rank hart))
      → asked (met_by d rank) hart ≡ asked rank hart
  unfolding asked
  asks_met rank hart same =
      ap (asked_in rank.site rank.memory (met_table d rank.requests) rank.phases)
      (doing_met rank.site (part_of rank hart))
      ∙ in_asked rank.site rank.memory rank.requests rank.phases (doing rank.site (part_of rank hart)) same
