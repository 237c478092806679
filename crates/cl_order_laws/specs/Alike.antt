-- Alike clusters: the same but for clocks, stamps, and the numbers of posts that are no claims.
use Rattle.std.specs.Prelude.{ℕ, ◌+◌, ◌<◌, ◌≡◌, List, length, slice_get, Some}
use Rattle.mp_hub.specs.Hub.{HubView, hub_after}
use Rattle.mp_alike_laws.specs.Renaming.{Renaming}
use Rattle.mp_alike_laws.specs.Alike.{AlikeHubs}
use Rattle.cl_journal.specs.Journal.{calls_of}
use Rattle.cl_state.specs.Rank.{Rank}
use Rattle.cl_state_laws.specs.VainLaws.{at_clock}
use Rattle.cl_names_laws.specs.Named.{rank_by}
use Rattle.cl_machine.specs.declared.steps.Step.{Step}
use Rattle.cl_machine.specs.Boxes.{Box, Holds, IsEmpty}
use Rattle.cl_machine.specs.Cluster.{CaseOf, Cluster}
use Rattle.cl_machine.specs.Journal.{Journal}

-- the hub after the calls of a journal
abbrev pub hub_of : Journal → HubView
hub_of journal = hub_after journal.links (calls_of journal.entries)

-- by other names of posts, and with whatever clock
abbrev pub AlikeRanks : Renaming → Rank → Rank → Type 0
AlikeRanks names a b = (clock : ℕ) × (b ≡ at_clock (rank_by names a) clock)

-- one thing lies in the box, and these are its bytes
pub record IsFull (box : Box) (bytes : List ℕ) : Type 0 where
  pub holds : Holds box bytes
  pub one : length box.made ≡ box.taken + 1

-- nothing lies in either box, or the same bytes in both
pub data AlikeBoxes (a b : Box) : Type 0 where
  both_empty : IsEmpty a → IsEmpty b → AlikeBoxes a b
  both_full : (bytes : List ℕ) → IsFull a bytes → IsFull b bytes → AlikeBoxes a b

-- as many in both lists, and what stands at one place corresponds
pub record AreEach {A : Type 0} (Alike : A → A → Type 0) (xs ys : List A) : Type 0 where
  pub many : length ys ≡ length xs
  pub each : (i : ℕ) (x : A) → slice_get xs i ≡ Some x → (y : A) × (slice_get ys i ≡ Some y) × Alike x y

pub record AlikeClusters (names : Renaming) (a b : Cluster) : Type 0 where
  pub ranks : AreEach (AlikeRanks names) a.ranks b.ranks
  pub hubs : AlikeHubs names (hub_of a.journal) (hub_of b.journal)
  pub boxes : AreEach AlikeBoxes a.boxes b.boxes

-- a step of the machine, but for the bound of its stamp: where that is below 2^62 it is a step (`IsStep`)
abbrev pub Leads : Cluster → Step → Cluster → Type 0
Leads old e new =
    (rank : Rank) × (slice_get old.ranks e.rank ≡ Some rank) × (e.hart < length rank.harts) × CaseOf old e rank e.kind new

-- the same turn at another stamp
abbrev pub at_stamp : Step → ℕ → Step
at_stamp e stamp = record e { stamp = stamp }
