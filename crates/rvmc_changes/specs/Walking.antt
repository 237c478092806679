-- How the changes of a record's steps are made, one after another.
use Rattle.std.specs.Prelude.{ℕ, ◌≡◌, ◌≢◌, ◌<◌, ◌≤◌, ◌+◌, ◌^◌, ◌==◌, ◌++◌, ◌∷◌, [], if◌then◌else◌, List, drop, length, map}
use Rattle.std.specs.Prelude.{slice_get, Option, Some, None, IfSome}
use Rattle.rv_hart.specs.State.{State}
use Rattle.rv_hart.specs.Stores.{store_range}
use Rattle.rv_image_types.specs.declared.images.ImageParts.{ImageParts}
use Rattle.rv_memory.specs.Memory.{bytes_at}
use Rattle.cl_debug.specs.Places.{IsAt}
use Rattle.cl_machine.specs.Cluster.{Cluster}
use Rattle.cl_machine.specs.declared.steps.Step.{Step}
use Rattle.cl_replay.specs.Replaying.{IsReached}
use Rattle.cl_replay.specs.declared.states.ClusterState.{ClusterState}
use Rattle.cl_state.specs.Rank.{Rank}
use Rattle.cl_state.specs.Room.{rank_of}
use Rattle.cl_state.specs.declared.state.RankState.{RankState}
use Rattle.cl_trace.specs.declared.events.Kind.{Kind}
use Rattle.rvmc_changes.specs.Changes.{AreChanges, Difference, difference, hart_in, stand_of, stretch}
use Rattle.rvmc_changes.specs.Edits.{edits_from}
use Rattle.rvmc_changes.specs.Given.{difference_in}
use Rattle.rvmc_changes.specs.Seen.{SeenRank, registers_of, seen_cluster}
use Rattle.rvmc_changes.specs.declared.before.Before.{Before}
use Rattle.rvmc_changes.specs.declared.before.Window.{Window}
use Rattle.rvmc_changes.specs.declared.edits.Edit.{Edit}
use Rattle.rvmc_changes.specs.declared.steps.Change.{Change}

-- ---- the bytes that a step may change

abbrev pub window : ℕ → ℕ → Window
window address count = record { address = address; count = count }

-- an instruction changes at most what it stores; any other step may change what there is
abbrev pub window_by : Kind → Step → Rank → Window
window_by Kind.Plain e rank =
    let stored = store_range (hart_in e rank) rank.memory in window stored.address stored.count
window_by _ e rank = window 0 (length rank.memory.bytes)

abbrev pub window_in : Step → Rank → Window
window_in e rank = window_by e.kind e rank

-- ---- a step

-- an edit, where what stood at a place is another thing now
abbrev pub edit_at : ℕ → ℕ → ℕ → List Edit
edit_at place old new = if old == new then [] else record { place = place; old = old; new = new } ∷ []

-- what is known of a step before it is done; nothing is only where the rank hasn't the step's hart
pub record IsLookedAt (e : Step) (rank : Rank) (b : Before) : Type 0 where
  pub hart : b.hart ≡ hart_in e rank
  pub written : b.written ≡ length rank.out
  pub window_is : b.window ≡ window_in e rank
  pub bytes : b.bytes.items ≡ bytes_at rank.memory b.window.address b.window.count

abbrev pub IsBefore : Step → Rank → Option Before → Type 0
IsBefore e rank None = length rank.harts ≤ e.hart
IsBefore e rank (Some b) = IsLookedAt e rank b

abbrev pub IsBeforeIn : ClusterState → Step → Option Before → Type 0
IsBeforeIn state e before =
    (s : RankState) → slice_get state.ranks.items e.rank ≡ Some s → IsBefore e (rank_of s) before

-- the bytes are those of a memory
abbrev pub Fits : Before → Type 0
Fits b = b.window.address + length b.bytes.items ≤ 2 ^ 20

-- the difference of the bytes in a window, where the others stay
abbrev pub seen_through : Window → Step → Rank → Rank → Difference
seen_through w e before after = record (difference e before after) {
  bytes = edits_from w.address (bytes_at before.memory w.address w.count) (bytes_at after.memory w.address w.count);
}

-- the change of a step of which this was known, of a rank that is so after it
abbrev pub IsChangeIn : Step → Before → Rank → State → Change → Type 0
IsChangeIn e b after hart change =
    difference_in change
    ≡ record {
      rank = e.rank;
      hart = e.hart;
      old = stand_of b.hart;
      new = stand_of hart;
      registers = edits_from 0 (registers_of b.hart) (registers_of hart);
      bytes = edits_from b.window.address b.bytes.items (bytes_at after.memory b.window.address b.window.count);
      put = drop b.written after.out;
    }

abbrev pub IsChangeBehind : ClusterState → Step → Before → Option Change → Type 0
IsChangeBehind state e b change =
    (t : RankState) → slice_get state.ranks.items e.rank ≡ Some t → e.hart < length t.harts.items
    → IfSome change (IsChangeIn e b (rank_of t) (hart_in e (rank_of t))) × (change ≢ None)

-- one change was added, that of a step whose rank was so before it and so after it
pub record IsAdded (e : Step) (before after : Rank) (old new : List Change) : Type 0 where
  pub change : Change
  pub is : difference_in change ≡ seen_through (window_in e before) e before after
  pub added : new ≡ old ++ change ∷ []

-- whatever its rank was before and after it
abbrev pub Adds : ClusterState → Step → ClusterState → List Change → List Change → Type 0
Adds old e new changes after =
    (s t : RankState) → slice_get old.ranks.items e.rank ≡ Some s → slice_get new.ranks.items e.rank ≡ Some t
    → e.hart < length s.harts.items → e.hart < length t.harts.items
    → IsAdded e (rank_of s) (rank_of t) changes after

-- ---- one step after another

-- the state is the cluster at a place, and these are the changes of the steps that lead there from another
pub record AreMade (image : ImageParts) (steps : List Step) (from : ℕ) (old : Cluster) (to : ℕ) (state : ClusterState)
    (changes : List Change) : Type 0 where
  pub reached : IsReached image steps to state
  pub are : AreChanges old (stretch from to steps) (map difference_in changes) reached.cluster

-- of whichever image the old state is the cluster at the one place
abbrev pub Makes : List Step → ℕ → ClusterState → ℕ → ClusterState → List Change → Type 0
Makes steps from old to new changes =
    (image : ImageParts) (reached : IsReached image steps from old)
    → AreMade image steps from reached.cluster to new changes

-- ---- the walk on its way

-- a walk that began at one place has come to another: the state is the cluster to which the changes lead
pub record HasCome (image : ImageParts) (steps : List Step) (from to : ℕ) (start : List SeenRank)
    (changes : List Difference) (state : ClusterState) : Type 0 where
  pub forwards : from ≤ to
  pub old : Cluster
  pub at : IsAt image steps from old
  pub start_is : start ≡ seen_cluster old
  pub reached : IsReached image steps to state
  pub changes_are : AreChanges old (stretch from to steps) changes reached.cluster

-- whichever walk has come to the one place in the old state comes to the other in the new one, by these changes more
abbrev pub GoesOn : List Step → ℕ → ClusterState → ℕ → ClusterState → List Difference → Type 0
GoesOn steps from old to new more =
    (image : ImageParts) (begun : ℕ) (start : List SeenRank) (changes : List Difference)
    → HasCome image steps begun from start changes old → HasCome image steps begun to start (changes ++ more) new
