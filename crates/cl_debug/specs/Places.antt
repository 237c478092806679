-- The places of a record, and where a run through it stops.
use Rattle.std.specs.Prelude.{ℕ, ◌≡◌, ◌<◌, ◌≤◌, ◌⊎◌, List, length, slice_get, take, Some, Contains}
use Rattle.rv_image_types.specs.declared.images.ImageParts.{ImageParts}
use Rattle.rv_hart.specs.State.{State}
use Rattle.cl_state.specs.Rank.{Rank}
use Rattle.cl_machine.specs.Cluster.{Cluster, IsRun, loaded_cluster}
use Rattle.cl_machine.specs.declared.steps.Step.{Step}
use Rattle.cl_debug.specs.declared.breaks.Break.{Break}

-- the cluster after the first n steps
abbrev pub IsAt : ImageParts → List Step → ℕ → Cluster → Type 0
IsAt image steps n cluster = (n ≤ length steps) × IsRun (loaded_cluster image) (take n steps) cluster

-- the hart of these numbers in a cluster
pub record IsHartOf (cluster : Cluster) (rank hart : ℕ) (state : State) : Type 0 where
  pub owner : Rank
  pub rank_there : slice_get cluster.ranks rank ≡ Some owner
  pub hart_there : slice_get owner.harts hart ≡ Some state

-- a run stops at place n: the next step there is one of a break's hart, and that hart's pc is the break's
pub record IsBreakPlace (image : ImageParts) (steps : List Step) (breaks : List Break) (n : ℕ) : Type 0 where
  pub step : Step
  pub next : slice_get steps n ≡ Some step
  pub cluster : Cluster
  pub here : IsAt image steps n cluster
  pub state : State
  pub hart_here : IsHartOf cluster step.rank step.hart state
  pub is_set : Contains breaks (record { rank = step.rank; hart = step.hart; pc = state.pc })

-- where a run from a place leads: to the least later place to stop at, or else to the end
abbrev pub IsStop : ImageParts → List Step → List Break → ℕ → ℕ → Type 0
IsStop image steps breaks from to =
    ((from < to) × IsBreakPlace image steps breaks to
    × ((n : ℕ) → from < n → n < to → ¬ IsBreakPlace image steps breaks n))
    ⊎ ((to ≡ length steps) × ((n : ℕ) → from < n → ¬ IsBreakPlace image steps breaks n))
