-- Ends that are there.
use Rattle.std.specs.Prelude.{ℕ, ◌≡◌, ◌<◌, List, length, slice_get, Some}
use Rattle.cl_explore.specs.Kept.{cluster_of}
use Rattle.cl_explore.specs.declared.kept.KeptNode.{KeptNode}
use Rattle.cl_replay.specs.Kept.{snapshot}
use Rattle.cl_replay.specs.declared.states.ClusterState.{ClusterState}

-- each number is below this one
abbrev pub AreInside : ℕ → List ℕ → Type 0
AreInside nodes numbers = (k i : ℕ) → slice_get numbers k ≡ Some i → i < nodes

-- the ends are nodes that are there
abbrev pub AreThere : List KeptNode → List ℕ → Type 0
AreThere kept ends = AreInside (length kept) ends

-- the state is what is kept of the node of this number
pub record IsKeptState (kept : List KeptNode) (node : ℕ) (state : ClusterState) : Type 0 where
  pub what : KeptNode
  pub there : slice_get kept node ≡ Some what
  pub same : snapshot state ≡ cluster_of what
