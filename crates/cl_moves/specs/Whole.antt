-- A hub that forgets nothing, beside a cluster's own.
use Rattle.std.specs.Prelude.{ℕ, ◌≡◌, ◌<◌, List, [], ◌∷◌, ◌++◌, length, slice_get, Option, Some, None}
use Rattle.rv_image_types.specs.declared.images.Link.{Link}
use Rattle.mp_types.specs.declared.requests.Request.{Request}
use Rattle.mp_hub.specs.Hub.{Call, HubView}
use Rattle.mp_hub.specs.Outcomes.{StandsFor}
use Rattle.cl_state.specs.declared.asking.Ask.{Ask}
use Rattle.cl_state.specs.declared.state.RankState.{RankState}
use Rattle.cl_state.specs.Asked.{asked}
use Rattle.cl_state.specs.Room.{rank_of}
use Rattle.cl_trace.specs.declared.events.Kind.{Kind}
use Rattle.cl_machine.specs.declared.steps.Step.{Step}
use Rattle.cl_replay.specs.declared.states.ClusterState.{ClusterState}

-- what the hub is called for, if it is called
abbrev pub requested : Ask → Option Request
requested (Ask.Hub request) = Some request
requested _ = None

-- the hub has answered the rank's call, if there is one
abbrev pub Follows : HubView → ℕ → Option Request → HubView → Type 0
Follows old rank None new = new ≡ old
Follows old rank (Some request) new =
    (links : List Link) (calls : List Call) → StandsFor old links calls
    → StandsFor new links (calls ++ (rank, request) ∷ [])

-- what the step's hart asks
abbrev pub IsAsked : ClusterState → Step → Option Request → Type 0
IsAsked state e request =
    (own : RankState) → slice_get state.ranks.items e.rank ≡ Some own → e.hart < length own.harts.items
    → requested (asked (rank_of own) e.hart) ≡ request

-- of a step of this kind: a call is what its hart asks, and any other calls for nothing
abbrev pub IsAskedAs : Kind → ClusterState → Step → Option Request → Type 0
IsAskedAs (Kind.Hub reply) state e request = IsAsked state e request
IsAskedAs _ state e request = request ≡ None

abbrev pub IsAskedBy : ClusterState → Step → Option Request → Type 0
IsAskedBy state e request = IsAskedAs e.kind state e request
