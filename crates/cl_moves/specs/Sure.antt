-- Turns that a rank can take before whatever others do, taken one after another.
use Rattle.std.specs.Prelude.{ℕ, ◌+◌, ◌≡◌, ◌<◌, ◌^◌, max, List, length, slice_get, Option, Some, None}
use Rattle.rv_image_types.specs.declared.images.ImageParts.{ImageParts}
use Rattle.rv_image_types.specs.declared.images.Link.{Link}
use Rattle.mp_types.specs.declared.requests.Request.{Request}
use Rattle.mp_hub.specs.Hub.{Call, reply_of}
use Rattle.mp_hub.specs.Outcomes.{StandsFor}
use Rattle.cl_deeds.specs.Orders.{in_slot}
use Rattle.cl_state.specs.declared.asking.Ask.{Ask}
use Rattle.cl_state.specs.declared.state.RankState.{RankState}
use Rattle.cl_state.specs.Asked.{asked}
use Rattle.cl_state.specs.Room.{rank_of}
use Rattle.cl_trace.specs.declared.events.Kind.{Kind}
use Rattle.cl_machine.specs.declared.steps.Step.{Step}
use Rattle.cl_order_laws.specs.Closed.{Node, Plans}
use Rattle.cl_order_laws.specs.Laws.{IsReached}
use Rattle.cl_order_laws.specs.Sure.{IsSettledBy}
use Rattle.cl_order_laws.specs.SureAsks.{IsReady}
use Rattle.cl_moves.specs.Moves.{turn_at}
use Rattle.cl_moves.specs.Posts.{most_posts}
use Rattle.cl_moves.specs.Standing.{IsWay, StandsAt, by_order}
use Rattle.cl_moves.specs.declared.standing.Standing.{Standing}
use Rattle.cl_moves.specs.declared.single.Whose.{Whose}

-- it is what the request asks for
abbrev pub IsReadyKind : Request → Kind → Type 0
IsReadyKind request (Kind.Hub reply) = IsReady request reply
IsReadyKind request _ = ⊥

abbrev pub IsSureIfSome : Step → Request → Option Step → Type 0
IsSureIfSome turn request None = Unit {0}
IsSureIfSome turn request (Some e) = (e ≡ turn) × IsReadyKind request e.kind

-- the turn of this call, for what is there
pub record IsSureCall (standing : Standing) (whose : Whose) (request : Request) (e : Step) : Type 0 where
  pub rank_is : e.rank ≡ whose.rank
  pub hart_is : e.hart ≡ whose.hart
  pub low : e.stamp < 2 ^ 62
  pub turn_is : (links : List Link) (calls : List Call) → StandsFor standing.cluster.hub links calls
      → e ≡ turn_at whose (max whose.clock standing.cluster.clock + 1) (Kind.Hub (reply_of links calls whose.rank request))
  pub ready : IsReadyKind request e.kind

abbrev pub IsSureCallIfSome : Standing → Whose → Request → Option Step → Type 0
IsSureCallIfSome standing whose request None = Unit {0}
IsSureCallIfSome standing whose request (Some e) = IsSureCall standing whose request e

-- the next turn of a rank, a call for what is there
pub record IsSureTurn (order : List ℕ) (standing : Standing) (rank : ℕ) (e : Step) : Type 0 where
  pub own : RankState
  pub had : ℕ
  pub there : slice_get standing.cluster.ranks.items rank ≡ Some own
  pub turns : slice_get standing.had.items rank ≡ Some had
  pub whose : Whose
  pub rank_is : whose.rank ≡ rank
  pub hart_is : whose.hart ≡ in_slot order had
  pub clock_is : whose.clock ≡ own.clock
  pub inside : whose.hart < length own.harts.items
  pub request : Request
  pub asks : asked (rank_of own) whose.hart ≡ Ask.Hub request
  pub call : IsSureCall standing whose request e

abbrev pub IsSureNext : List ℕ → Standing → ℕ → Option Step → Type 0
IsSureNext order standing rank None = Unit {0}
IsSureNext order standing rank (Some e) = IsSureTurn order standing rank e

-- ---- where they lead

-- what settles the one settles the other
abbrev pub SettlesBy : Plans → Node → Node → Type 0
SettlesBy plans here there =
    (nodes : List Node) → IsSettledBy plans most_posts nodes there → IsSettledBy plans most_posts nodes here

-- whichever node the old standing was that a run led to, the new one is one that settles it
abbrev pub GoesSurely : List ℕ → Standing → Standing → Type 0
GoesSurely order old new =
    (image : ImageParts) (start here : Node) → StandsAt image old here → IsWay (by_order order) start old.steps.items here
    → IsReached start.cluster
    → (there : Node) × StandsAt image new there × IsWay (by_order order) start new.steps.items there
    × SettlesBy (by_order order) here there
