-- What changes come to.
use Rattle.std.specs.Prelude.{ℕ, ◌≡◌, ◌≤◌, ◌-◌, List, length, slice_get, take, Some}
use Rattle.cl_debug.specs.Debugging.{Debugging}
use Rattle.cl_debug.specs.Places.{IsAt}
use Rattle.cl_debug.specs.Shown.{ShowsRank}
use Rattle.cl_machine.specs.Cluster.{Cluster, IsRun}
use Rattle.cl_machine.specs.declared.steps.Step.{Step}
use Rattle.cl_state.specs.Rank.{Rank}
use Rattle.rvmc_changes.specs.Doing.{all_done, all_undone}
use Rattle.rvmc_changes.specs.Changes.{AreChanges, Difference, stretch}
use Rattle.rvmc_changes.specs.Seen.{SeenRank, seen_cluster, seen_rank}
use Rattle.rvmc_changes.specs.Walks.{IsWalk}

-- the first n of a run's changes lead from what is seen at its start to what is seen behind its first n steps, and back
pub record LeadsThere (old : Cluster) (es : List Step) (ds : List Difference) (n : ℕ) : Type 0 where
  pub here : Cluster
  pub run : IsRun old (take n es) here
  pub forwards : all_done (take n ds) (seen_cluster old) ≡ seen_cluster here
  pub back : all_undone (take n ds) (seen_cluster here) ≡ seen_cluster old

abbrev pub PlacesLaw : Type 0
PlacesLaw =
    (old new : Cluster) (es : List Step) (ds : List Difference) (n : ℕ) → AreChanges old es ds new → n ≤ length es
    → LeadsThere old es ds n

-- what a debugger that stands at a place shows of a rank is what is seen there in this list
pub record ShowsSeen (debugging : Debugging) (ranks : List SeenRank) : Type 0 where
  pub cluster : Cluster
  pub at : IsAt debugging.image debugging.steps debugging.place cluster
  pub ranks_are : ranks ≡ seen_cluster cluster
  pub ranks_shown : (rank : ℕ) (owner : Rank) → ShowsRank debugging rank owner
      → slice_get ranks rank ≡ Some (seen_rank owner)

-- the changes of the steps between two places of a record lead to what a debugger shows at each place between them
abbrev pub ShownLaw : Type 0
ShownLaw =
    (debugging : Debugging) (from to : ℕ) (old new : Cluster) (ds : List Difference) → from ≤ debugging.place
    → debugging.place ≤ to → to ≤ length debugging.steps → IsAt debugging.image debugging.steps from old
    → AreChanges old (stretch from to debugging.steps) ds new
    → ShowsSeen debugging (all_done (take (debugging.place - from) ds) (seen_cluster old))

-- the first n changes of a walk lead from its start to what a debugger shows n steps behind it, and back
pub record WalksThere (debugging : Debugging) (start : List SeenRank) (changes : List Difference) (n : ℕ) : Type 0 where
  pub forwards : ShowsSeen debugging (all_done (take n changes) start)
  pub back : all_undone (take n changes) (all_done (take n changes) start) ≡ start

abbrev pub WalkLaw : Type 0
WalkLaw =
    (debugging : Debugging) (from to : ℕ) (start : List SeenRank) (changes : List Difference)
    → IsWalk debugging.image debugging.steps from to start changes
    → from ≤ debugging.place → debugging.place ≤ to → WalksThere debugging start changes (debugging.place - from)
