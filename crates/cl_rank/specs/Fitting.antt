-- Requests that go with phases.
use Rattle.std.specs.Prelude.{ℕ, ◌≡◌, ◌<◌, List, Some}
use Rattle.mp_request.specs.declared.entries.Partitions.{Partitions}
use Rattle.mp_request.specs.Table.{Table, request_at}
use Rattle.cl_calls.specs.Checks.{sending_side}
use Rattle.part_phase.specs.declared.phases.Phase.{Phase}
use Rattle.part_phase.specs.Phases.{sending_at}

-- the sender's side of a request has the shape that the rank's side of its link has
pub record RequestsFit (requests : Table) (phases : List Phase) : Type 0 where
  pub size : (handle : ℕ) (side : Partitions) → sending_side (request_at requests handle) ≡ Some side
      → (0 < (sending_at phases side.link).parts) × ((sending_at phases side.link).size ≡ side.size)
