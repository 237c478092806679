-- What is told of the place where a picture ends: a row for each hart that waits there, and what `why` tells of it.
use Rattle.std.specs.Prelude.{ℕ, ◌≡◌, ◌==◌, ◌&&◌, if◌then◌else◌, not, Bool, true, false, List, [], ◌∷◌, map, slice_get}
use Rattle.std.specs.Prelude.{Option, Some, None, option_map}
use Rattle.std.specs.List.{flat_map, list_any, range_with_len}
use Rattle.rv_hart.specs.State.{State}
use Rattle.rv_image_types.specs.declared.images.ImageParts.{ImageParts}
use Rattle.cl_replay.specs.declared.states.ClusterState.{ClusterState}
use Rattle.cl_state.specs.Room.{rank_of}
use Rattle.cl_state.specs.declared.state.RankState.{RankState}
use Rattle.rvmc_draw.specs.declared.drawing.Drawing.{Drawing}
use Rattle.rvmc_draw.specs.declared.drawing.Row.{Row}
use Rattle.rvmc_sights.specs.Below.{IsDeadlockVerdict, IsWhy, Wait, waits}
use Rattle.rvmc_sights.specs.Below.wait
use Rattle.rvmc_picture.specs.Deeds.{is_in_wait}

-- ---- whom a hart waits for

-- whether what is waited for could come from this rank; a message from any rank could come from each
abbrev pub could_bring : ℕ → Wait → Bool
could_bring rank (wait.Message None tag comm) = true
could_bring rank (wait.Message (Some source) tag comm) = source == rank
could_bring rank (wait.Receiver to) = to == rank
could_bring rank (wait.Partition part link from) = from == rank
could_bring rank (wait.Taken part link to) = to == rank
could_bring rank (wait.Shape link from) = from == rank
could_bring rank (wait.OwnPartition part link) = false

-- whether a hart that waits for these things waits for this rank, which isn't its own
abbrev pub is_awaited : ℕ → List Wait → ℕ → Bool
is_awaited own waits rank = not (rank == own) && list_any (could_bring rank) waits

unfoldable pub awaited_if : ℕ → List Wait → ℕ → List ℕ
awaited_if own waits rank = if is_awaited own waits rank then rank ∷ [] else []

-- the ranks that it waits for, in order
abbrev pub awaited_of : ℕ → ℕ → List Wait → List ℕ
awaited_of ranks own waits = flat_map (awaited_if own waits) (range_with_len 0 ranks)

-- ---- rows

-- a hart that waits, the ranks that it waits for, and whether its own is in the deadlock
pub record Awaits : Type 0 where
  pub rank : ℕ
  pub hart : ℕ
  pub awaited : List ℕ
  pub stuck : Bool

abbrev pub awaits_of : Row → Awaits
awaits_of row = record { rank = row.rank; hart = row.hart; awaited = row.awaited.items; stuck = row.stuck }

abbrev pub is_stuck : Option (List ℕ) → ℕ → Bool
is_stuck None rank = false
is_stuck (Some ranks) rank = list_any (λ other. other == rank) ranks

-- of a hart that waits for nothing more there is no row
abbrev pub row_if : ℕ → Option (List ℕ) → ℕ → ℕ → List Wait → List Awaits
row_if ranks found rank hart [] = []
row_if ranks found rank hart (w ∷ ws) =
    record {
      rank = rank;
      hart = hart;
      awaited = awaited_of ranks rank (w ∷ ws);
      stuck = is_stuck found rank;
    }
    ∷ []

-- what a rank's hart waits for: nothing, unless it waits
abbrev pub waits_if : ClusterState → RankState → ℕ → Option State → List Wait
waits_if state own hart None = []
waits_if state own hart (Some is) =
    if is_in_wait is.mode then waits state.hub state.boxes.items (rank_of own) hart else []

abbrev pub waits_at : ClusterState → ℕ → Option RankState → List Wait
waits_at state hart None = []
waits_at state hart (Some own) = waits_if state own hart (slice_get own.harts.items hart)

-- the row of a hart, if it waits for something
unfoldable pub hart_row : ℕ → ClusterState → Option (List ℕ) → ℕ → ℕ → List Awaits
hart_row ranks state found rank hart =
    row_if ranks found rank hart (waits_at state hart (slice_get state.ranks.items rank))

-- those of a rank's harts in order
unfoldable pub rank_rows : ImageParts → ClusterState → Option (List ℕ) → ℕ → List Awaits
rank_rows image state found rank = flat_map (hart_row image.ranks state found rank) (range_with_len 0 image.harts)

-- those of all ranks in order
abbrev pub all_rows : ImageParts → ClusterState → Option (List ℕ) → List Awaits
all_rows image state found = flat_map (rank_rows image state found) (range_with_len 0 image.ranks)

-- ---- the end

-- where a hart waits, what `why` tells of the state; or else nothing
abbrev pub IsToldOf : ImageParts → ClusterState → List Row → List ℕ → Type 0
IsToldOf image state [] text = text ≡ []
IsToldOf image state (row ∷ rows) text = IsWhy false image state text

-- the rows of a state, of which these ranks are in a deadlock
abbrev pub AreRowsOf : ImageParts → ClusterState → Option (List ℕ) → List Row → Type 0
AreRowsOf image state found rows = map awaits_of rows ≡ all_rows image state found

-- with `cl_deadlock`'s verdict on it
pub record AreRows (image : ImageParts) (state : ClusterState) (rows : List Row) : Type 0 where
  pub found : Option (List ℕ)
  pub verdict : IsDeadlockVerdict state found
  pub are : AreRowsOf image state found rows

-- what is told of a state
pub record IsToldEnd (image : ImageParts) (state : ClusterState) (rows : List Row) (told : List ℕ) : Type 0 where
  pub rows_are : AreRows image state rows
  pub told_is : IsToldOf image state rows told
