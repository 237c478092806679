-- What is known of a turn once it was read.
use Rattle.std.specs.Prelude.{◌≡◌, ℕ, List, [], IsTrue}
use Rattle.rv_memory.specs.Memory.{Memory, bytes_at}
use Rattle.rv_hart.specs.State.{State}
use Rattle.rv_hart.specs.declared.state.Mode.TheVariants.{Running}
use Rattle.mp_request.specs.Table.{Table}
use Rattle.cl_state.specs.declared.asking.Doing.{Doing}
use Rattle.cl_state.specs.declared.asking.Doing.TheVariants.{Go, Step}
use Rattle.cl_calls.specs.declared.calls.Call.TheVariants as call
use Rattle.cl_calls.specs.declared.needs.Needs.{Needs}
use Rattle.cl_calls.specs.declared.sites.Site.{Site}
use Rattle.cl_calls.specs.Needs.{needs_of}
use Rattle.cl_calls.specs.Checks.{is_named, is_comm, is_peer, is_tag, is_count, is_idle, is_few, is_array}
use Rattle.cl_calls.specs.Checks.{has_parts, has_size, is_part, is_going, is_unready}
use Rattle.part_phase.specs.declared.phases.Phase.{Phase}

-- what the checks make sure of, and the code leans on: arguments
-- that name a member of a communicator, a tag, a length and a shape
abbrev pub IsRight : Site → Needs → Type 0
IsRight site needs =
    IsTrue (is_comm site needs.comm)
    × IsTrue (is_peer site needs.comm needs.peer)
    × IsTrue (is_tag needs.tag)
    × IsTrue (is_count needs.buffer)
    × IsTrue (has_parts needs.region)
    × IsTrue (has_size site.version needs.region)

-- and a request that is there and, where it is to be started or freed, isn't active; where a partition of it is to be
-- made ready, a phase is going on, and the partition isn't ready
pub record IsThere (table : Table) (phases : List Phase) (needs : Needs) : Type 0 where
  pub named : IsTrue (is_named table needs.request)
  pub idle : IsTrue (is_idle table needs.request)
  pub part : IsTrue (is_part table phases needs.request)
  pub going : IsTrue (is_going table phases needs.request)
  pub unready : IsTrue (is_unready table phases needs.request)

-- and an array of handles, not too long, that is in the memory
abbrev pub HasHandles : Memory → Needs → Type 0
HasHandles memory needs = IsTrue (is_few needs.handles) × IsTrue (is_array memory needs.handles)

-- a call that goes on has passed the checks
abbrev pub IsChecked : Site → Memory → Table → List Phase → Doing → Type 0
IsChecked site memory table phases (Go call) =
    IsRight site (needs_of call) × IsThere table phases (needs_of call) × HasHandles memory (needs_of call)
IsChecked site memory table phases _ = Unit {0}

-- an instruction is a running hart's
abbrev pub IsRunning : Doing → State → Type 0
IsRunning Step hart = hart.mode ≡ Running
IsRunning _ hart = Unit {0}

abbrev pub IsNoStep : Doing → Type 0
IsNoStep Step = ⊥
IsNoStep _ = Unit {0}

-- how many bytes a turn puts behind the output
abbrev pub growth_of : Doing → ℕ
growth_of (Go call) = (needs_of call).growth
growth_of _ = 0

-- and which
abbrev pub output_of : Memory → Doing → List ℕ
output_of memory (Go (call.Put buffer count)) = bytes_at memory buffer count
output_of memory _ = []
