-- What a search says of runs of any length, finished or not: whether they can still end, and whether ranks are stuck or need
-- buffers.
use Rattle.std.specs.Prelude.{ℕ, ◌≡◌, Bool, true, false, List, [], length, slice_get, Some}
use Rattle.rv_image_types.specs.declared.images.ImageParts.{ImageParts}
use Rattle.cl_machine.specs.Cluster.{Cluster, IsRun}
use Rattle.cl_machine.specs.declared.steps.Step.{Step}
use Rattle.cl_order_laws.specs.Closed.{FollowPlans, IsEnd, Node, had_after}
use Rattle.cl_outcome_laws.specs.Companies.{IsCompany}
use Rattle.cl_outcome_laws.specs.Unending.{MayEnd, NeverEnds}
use Rattle.cl_explore.specs.Below.{AreBelow}
use Rattle.cl_deadlock_laws.specs.Stuck.{IsReachable}
use Rattle.cl_replay.specs.States.{ClusterStandsFor}
use Rattle.cl_replay.specs.declared.states.ClusterState.{ClusterState}
use Rattle.cl_rest_laws.specs.Buffering.{NeedBuffers}
use Rattle.cl_rest_laws.specs.Ends.{IsEndWhereSendsWait}
use Rattle.cl_explore.specs.Below.{IsOrder}
use Rattle.cl_moves.specs.Standing.{IsWay, by_order, first_node, node_of}
use Rattle.cl_explore.specs.Covering.{HasLead}
use Rattle.cl_explore.specs.Ends.{ExploredFrom, Findings}
use Rattle.cl_explore.specs.declared.companies.Company.{Company}
use Rattle.cl_explore.specs.declared.leads.Lead.{Lead}
use Rattle.rvmc_explore.specs.HangTexts.{going_text}
use Rattle.rvmc_explore.specs.Marks.{IsMarkedIfThere}

-- ---- runs that never end

-- a run by the order leads from the loaded cluster to one from which no turns by the order lead to an end
pub record SomeNeverEnds (image : ImageParts) (order : List ℕ) : Type 0 where
  pub steps : List Step
  pub there : Node
  pub way : IsWay (by_order order) (first_node image) steps there
  pub never : NeverEnds (by_order order) there

-- the lines of harts that go on are of such a state
pub record GoesOnThere (image : ImageParts) (order text : List ℕ) : Type 0 where
  pub run : SomeNeverEnds image order
  pub state : ClusterState
  pub stands : ClusterStandsFor image state (run.there).cluster
  pub spelled : text ≡ going_text image order state

-- where some runs go on for ever; else there are none
abbrev pub SaysGoing : ImageParts → List ℕ → Bool → List ℕ → Type 0
SaysGoing image order true text = GoesOnThere image order text
SaysGoing image order false text = text ≡ []

-- wherever a run by the order leads from here, some turns by the order lead on to an end
abbrev pub AllMayEnd : List ℕ → Node → Type 0
AllMayEnd order start =
    (steps : List Step) (end : Cluster) → IsRun start.cluster steps end → FollowPlans (by_order order) start.had steps
    → MayEnd (by_order order) (node_of end (had_after start.had steps))

-- the line `some runs go on for ever` stands only where one does; and where it doesn't stand and no state is left, each can
-- still end, by an order of harts that are there
abbrev pub SaysUnending : ImageParts → List ℕ → Node → ℕ → Bool → Type 0
SaysUnending image order start left true = SomeNeverEnds image order
SaysUnending image order start left false =
    left ≡ 0 → IsOrder image.harts order → AllMayEnd order start

-- ---- ranks that are stuck

-- no run by the order from here comes to a cluster in which ranks of the image are stuck together and a hart of theirs
-- waits, whatever the others do
abbrev pub NeverStuck : ImageParts → List ℕ → Node → Type 0
NeverStuck image order start =
    (steps : List Step) (end : Cluster) → IsRun start.cluster steps end → FollowPlans (by_order order) start.had steps
    → (ranks : List ℕ) → AreBelow ranks image.ranks → ¬ IsCompany ranks end

-- where no company was found and no state is left, that is so
abbrev pub SaysNoneStuck : ImageParts → List ℕ → Node → ℕ → List Company → Type 0
SaysNoneStuck image order start left companies = left ≡ 0 → length companies ≡ 0 → NeverStuck image order start

-- ---- ranks that need buffers

-- no run by the order from here, of any length, comes to a cluster in which ranks of the image need buffers
abbrev pub NeverNeeds : ImageParts → List ℕ → Node → Type 0
NeverNeeds image order start =
    (steps : List Step) (end : Cluster) → IsRun start.cluster steps end → FollowPlans (by_order order) start.had steps
    → (ranks : List ℕ) → AreBelow ranks image.ranks → ¬ NeedBuffers ranks end

-- where standard sends might wait for their receives and no state is left, that is so
abbrev pub SaysNoneNeed : ImageParts → List ℕ → Node → ℕ → Bool → Type 0
SaysNoneNeed image order start left may_wait = left ≡ 0 → may_wait ≡ true → NeverNeeds image order start

-- wherever a run by the order leads from here: if nobody has to go on there in a machine in which each standard send waits for its
-- receive or goes on, where it is made or waited for and in any choice, nobody goes on anyway. So the ends of that machine are
-- those of this one
abbrev pub EndsAnyway : List ℕ → Node → Type 0
EndsAnyway order start =
    (steps : List Step) (end : Cluster) → IsRun start.cluster steps end → FollowPlans (by_order order) start.had steps
    → IsEndWhereSendsWait (by_order order) end
    → IsEnd (by_order order) end

-- where standard sends might wait and no state is left, that is so
abbrev pub SaysEndsAnyway : List ℕ → Node → ℕ → Bool → Type 0
SaysEndsAnyway order start left may_wait = left ≡ 0 → may_wait ≡ true → EndsAnyway order start

-- ---- which nodes lead to no end

-- each of these nodes is marked, and so is each from which a move led to a marked one
pub record AreComplete (leads : List Lead) (targets : List ℕ) (marks : List Bool) : Type 0 where
  pub at : (k i : ℕ) → slice_get targets k ≡ Some i → IsMarkedIfThere marks i
  pub before : (i j : ℕ) → HasLead leads i j → slice_get marks j ≡ Some true → IsMarkedIfThere marks i

-- whatever was searched, from wherever a run leads
abbrev pub SaysUnendingOf : Findings → Bool → Type 0
SaysUnendingOf found unending =
    (image : ImageParts) (order : List ℕ) (start : Node) → IsReachable image start.cluster
    → ExploredFrom image order start found → SaysUnending image order start found.left unending
