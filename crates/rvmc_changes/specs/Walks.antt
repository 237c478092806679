-- A walk through a record: the start of a stretch, and what each of its steps changed.
use Rattle.std.specs.Prelude.{ℕ, ◌≡◌, ◌≤◌, List, length, map}
use Rattle.rv_image_types.specs.declared.images.ImageParts.{ImageParts}
use Rattle.cl_debug.specs.Places.{IsAt}
use Rattle.cl_machine.specs.Cluster.{Cluster}
use Rattle.cl_machine.specs.declared.steps.Step.{Step}
use Rattle.rvmc_changes.specs.Changes.{AreChanges, Difference, stretch}
use Rattle.rvmc_changes.specs.Seen.{SeenHart, SeenRank, seen_cluster}
use Rattle.rvmc_changes.specs.declared.starts.HartStart.{HartStart}
use Rattle.rvmc_changes.specs.declared.starts.RankStart.{RankStart}

-- ---- what contracts see

-- of the start of a hart, and of a rank
abbrev pub hart_at_start : HartStart → SeenHart
hart_at_start h = record { registers = h.registers.items; pc = h.pc; mode = h.mode }

abbrev pub rank_at_start : RankStart → SeenRank
rank_at_start r = record { harts = map hart_at_start r.harts.items; bytes = r.bytes.items; out = r.out.items }

abbrev pub seen_at_start : List RankStart → List SeenRank
seen_at_start start = map rank_at_start start

-- ---- the walk

-- it starts with what is seen of the cluster at one place, and has the change of each step from there to another
pub record IsWalk (image : ImageParts) (steps : List Step) (from to : ℕ) (start : List SeenRank)
    (changes : List Difference) : Type 0 where
  pub inside : to ≤ length steps
  pub old : Cluster
  pub new : Cluster
  pub at : IsAt image steps from old
  pub start_is : start ≡ seen_cluster old
  pub changes_are : AreChanges old (stretch from to steps) changes new
