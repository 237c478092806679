-- Ranks that are stuck: each of their harts is stopped, or waits on what none but these ranks could bring. And a
-- deadlock: ranks whom no run of the machine lets go on.
use Rattle.std.specs.Prelude.{ℕ, ◌<◌, ◌≡◌, ◌==◌, ◌⊎◌, Bool, IsTrue, List, length, Some, slice_get, is_some}
use Rattle.std.specs.List.{list_any}
use Rattle.rv_image_types.specs.declared.images.ImageParts.{ImageParts}
use Rattle.mp_transfers.specs.Inits.{is_receiver}
use Rattle.mp_wait_laws.specs.Waits.{OnlyOf, WaitsFor, sends_over}
use Rattle.cl_calls.specs.declared.sites.Site.{Site}
use Rattle.cl_calls.specs.Site.{members, position_of}
use Rattle.cl_state.specs.declared.asking.Ask.{Ask}
use Rattle.cl_state.specs.Asked.{asked}
use Rattle.cl_state.specs.Rank.{Rank}
use Rattle.cl_state_laws.specs.Vain.{IsPatient, IsStopped, IsWaiting, mode_of}
use Rattle.cl_machine.specs.declared.steps.Step.{Step}
use Rattle.cl_machine.specs.Boxes.{Box, IsEmpty, box_number}
use Rattle.cl_machine.specs.Cluster.{Cluster, IsRun, loaded_cluster}
use Rattle.cl_journal.specs.Journal.{calls_of}

-- ---- a deadlock

-- whether the rank is one of these
abbrev pub is_among : List ℕ → ℕ → Bool
is_among ranks r = list_any (λ k. k == r) ranks

-- the rank is as it was, but for its clock: memory, harts with their registers, modes and pcs, requests, phases, output
abbrev pub IsAsItWas : Rank → Rank → Type 0
IsAsItWas old new = (clock : ℕ) × (new ≡ record old { clock = clock })

-- each of these ranks is as it was, but for its clock
abbrev pub AreAsTheyWere : List ℕ → Cluster → Cluster → Type 0
AreAsTheyWere ranks old new =
    (r : ℕ) (rank : Rank) → IsTrue (is_among ranks r) → slice_get old.ranks r ≡ Some rank
    → (after : Rank) × (slice_get new.ranks r ≡ Some after) × IsAsItWas rank after

-- a hart of these ranks waits
pub record SomeWaits (ranks : List ℕ) (cluster : Cluster) : Type 0 where
  pub r : ℕ
  pub rank : Rank
  pub hart : ℕ
  pub among : IsTrue (is_among ranks r)
  pub there : slice_get cluster.ranks r ≡ Some rank
  pub waits : IsWaiting (mode_of rank hart)

-- some hart of these ranks waits, and no run of the machine from here, of any length and with any order of turns, lets
-- any of them go on
pub record IsDeadlock (ranks : List ℕ) (cluster : Cluster) : Type 0 where
  pub waits : SomeWaits ranks cluster
  pub forever : (steps : List Step) (new : Cluster) → IsRun cluster steps new → AreAsTheyWere ranks cluster new

-- ---- the rule

-- nothing is in the box, and something is
abbrev pub IsEmptyAt : List Box → ℕ → Type 0
IsEmptyAt boxes number = (box : Box) → slice_get boxes number ≡ Some box → IsEmpty box

abbrev pub IsFullAt : List Box → ℕ → Type 0
IsFullAt boxes number = (box : Box) → slice_get boxes number ≡ Some box → ¬ IsEmpty box

-- whether rank k is a member of a communicator. Each rank has the image's communicators
abbrev pub is_member : Site → ℕ → ℕ → Bool
is_member site comm k = is_some (position_of k (members site comm))

-- what the hart of rank r asks isn't there now, and could come from these ranks alone: from whoever could answer it at
-- the hub, from a link's sender into an empty box, from its receiver out of a full one, or from its own rank
abbrev pub AsksInVain : List ℕ → Cluster → ℕ → Site → Ask → Type 0
AsksInVain ranks cluster r site (Ask.Hub request) =
    WaitsFor (is_member site) (is_among ranks) cluster.journal.links (calls_of cluster.journal.entries) r request
AsksInVain ranks cluster r site (Ask.Look link part) =
    IsEmptyAt cluster.boxes (box_number link part) × OnlyOf (is_among ranks) (sends_over cluster.journal.links link)
AsksInVain ranks cluster r site (Ask.Freed link part) =
    IsFullAt cluster.boxes (box_number link part)
    × OnlyOf (is_among ranks) (λ k. is_receiver cluster.journal.links k link)
AsksInVain ranks cluster r site Ask.Held = Unit {0}
AsksInVain ranks cluster r site _ = ⊥

-- the hart waits in a blocking call, in vain
pub record IsStuckHart (ranks : List ℕ) (cluster : Cluster) (r : ℕ) (rank : Rank) (hart : ℕ) : Type 0 where
  pub patient : IsPatient rank hart
  pub in_vain : AsksInVain ranks cluster r rank.site (asked rank hart)

-- each hart of each of these ranks is stopped or held
abbrev pub AreStuck : List ℕ → Cluster → Type 0
AreStuck ranks cluster =
    (r : ℕ) (rank : Rank) (hart : ℕ) → IsTrue (is_among ranks r) → slice_get cluster.ranks r ≡ Some rank
    → hart < length rank.harts → IsStopped (mode_of rank hart) ⊎ IsStuckHart ranks cluster r rank hart

-- ---- the law

-- the cluster was reached from an image
abbrev pub IsReachable : ImageParts → Cluster → Type 0
IsReachable image cluster = (steps : List Step) × IsRun (loaded_cluster image) steps cluster
