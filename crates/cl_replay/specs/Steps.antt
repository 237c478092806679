-- Where a step leads, and what it is refused for.
use Rattle.std.specs.Prelude.{◌≡◌, ◌<◌, ◌⊎◌, Some, true, slice_get}
use Rattle.rv_image_types.specs.declared.images.ImageParts.{ImageParts}
use Rattle.mp_types.specs.Carried.{carried_by_request}
use Rattle.mp_types.specs.declared.requests.Request.{Request}
use Rattle.mp_hub.specs.Made.{makes}
use Rattle.cl_state.specs.declared.asking.Ask.{Ask}
use Rattle.cl_state.specs.Asked.{asked, doing, part_of}
use Rattle.cl_state.specs.Rank.{Rank}
use Rattle.cl_state.specs.Right.{growth_of}
use Rattle.cl_trace.specs.declared.events.Kind.{Kind}
use Rattle.cl_machine.specs.Cluster.{Cluster, IsStep}
use Rattle.cl_machine.specs.declared.steps.Step.{Step}
use Rattle.cl_machine.specs.Journal.{reply_in}
use Rattle.cl_replay.specs.declared.states.ClusterState.{ClusterState}
use Rattle.cl_replay.specs.declared.faults.StepFault.{StepFault}
use Rattle.cl_replay.specs.States.{ClusterStandsFor}
use Rattle.cl_deeds.specs.Memory.{LacksPages}

-- whichever cluster the old state is, the step leads from it to one that the new state is
abbrev pub Leads : ClusterState → Step → ClusterState → Type 0
Leads old e new =
    (image : ImageParts) (cluster : Cluster) → ClusterStandsFor image old cluster
    → (next : Cluster) × IsStep cluster e next × ClusterStandsFor image new next

-- whichever cluster the state is, the step leads nowhere from it
abbrev pub LeadsNowhere : ClusterState → Step → Type 0
LeadsNowhere old e =
    (image : ImageParts) (cluster next : Cluster) → ClusterStandsFor image old cluster → ¬ IsStep cluster e next

-- a step of a rank for which memory is taken: bytes are put behind the output, or the hub is asked by a request that
-- carries bytes or posts, or is called to make a post, a claim, a side or a list of messages
abbrev pub KindTakesMemory : Cluster → Step → Rank → Kind → Type 0
KindTakesMemory cluster e rank Kind.Local = 0 < growth_of (doing rank.site (part_of rank e.hart))
KindTakesMemory cluster e rank (Kind.Hub reply) =
    (request : Request) × (asked rank e.hart ≡ Ask.Hub request)
    × ((0 < carried_by_request request) ⊎ (makes request (reply_in cluster.journal e.rank request) ≡ true))
KindTakesMemory cluster e rank _ = ⊥

-- or a page is made that the turn may write
abbrev pub TakesMemory : ClusterState → Step → Type 0
TakesMemory old e =
    (image : ImageParts) (cluster : Cluster) → ClusterStandsFor image old cluster
    → (rank : Rank) × (slice_get cluster.ranks e.rank ≡ Some rank)
    × (LacksPages rank e.hart ⊎ KindTakesMemory cluster e rank e.kind)

-- why there was no step
abbrev pub StepFaultHolds : ClusterState → Step → StepFault → Type 0
StepFaultHolds old e StepFault.NotAStep = LeadsNowhere old e
StepFaultHolds old e StepFault.Memory = TakesMemory old e
