-- Steps that are counted one after another.
use Rattle.std.specs.Prelude.{ℕ, ◌≡◌, ◌<◌, List, [], ◌∷◌, ◌++◌, length, slice_get, Option, Some}
use Rattle.rv_image_types.specs.declared.images.ImageParts.{ImageParts}
use Rattle.cl_machine.specs.declared.steps.Step.{Step}
use Rattle.cl_replay.specs.Replaying.{IsReached}
use Rattle.cl_replay.specs.declared.states.ClusterState.{ClusterState}
use Rattle.cl_state.specs.Room.{rank_of}
use Rattle.cl_state.specs.declared.state.RankState.{RankState}
use Rattle.rvmc_stats.specs.Counted.{Taken}
use Rattle.rvmc_stats.specs.Tables.{AreOf}
use Rattle.rvmc_stats.specs.declared.tables.Tables.{Tables}
use Rattle.rvmc_sights.specs.Lines.{Sight, sight_of}
use Rattle.rvmc_list.specs.List.{AreSights}
use Rattle.rvmc_list.specs.Stats.{counted}
use Rattle.rvmc_list.specs.declared.folding.Wanted.{Wanted}

-- whatever steps tables are of, they are of what is counted of these too
pub record Counts (rank : Option ℕ) (sights : List Sight) (old new : Tables) : Type 0 where
  pub counts : (ranks words : ℕ) (all : List Taken) → AreOf ranks words all old
      → AreOf ranks words (all ++ counted rank sights) new

-- a step was counted, whatever its rank was before and after it
abbrev pub CountsStep : Option ℕ → ClusterState → ℕ → Step → ClusterState → Tables → Tables → Type 0
CountsStep rank old place e new told after =
    (s t : RankState) → slice_get old.ranks.items e.rank ≡ Some s → slice_get new.ranks.items e.rank ≡ Some t
    → e.hart < length s.harts.items → e.hart < length t.harts.items
    → Counts rank (sight_of place e (rank_of s) (rank_of t) ∷ []) told after

-- the steps from one place to another were, and the state is the cluster there
pub record AreCounted (image : ImageParts) (steps : List Step) (rank : Option ℕ) (from n : ℕ) (state : ClusterState)
    (old new : Tables) : Type 0 where
  pub reached : IsReached image steps n state
  pub sights : List Sight
  pub are : AreSights image steps from n sights
  pub counts : Counts rank sights old new

pub record AreAllCounted (image : ImageParts) (steps : List Step) (wanted : Wanted) (to : ℕ) (old new : Tables)
    : Type 0 where
  pub sights : List Sight
  pub are : AreSights image steps wanted.from to sights
  pub counts : Counts wanted.rank sights old new
