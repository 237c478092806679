-- The turns that a hart may take from a state.
use Rattle.std.specs.Prelude.{ℕ, ◌+◌, ◌<◌, ◌^◌, ◌≡◌, ◌⊎◌, max, List, [], ◌∷◌, slice_get, Option, Some, None}
use Rattle.rv_image_types.specs.declared.images.ImageParts.{ImageParts}
use Rattle.part_box.specs.declared.settled.Settled.{Settled}
use Rattle.cl_state.specs.declared.asking.Ask.{Ask}
use Rattle.cl_state.specs.Rank.{Rank}
use Rattle.cl_trace.specs.declared.events.Kind.{Kind}
use Rattle.cl_machine.specs.declared.steps.Step.{Step}
use Rattle.cl_machine.specs.Boxes.{Box, box_number}
use Rattle.cl_machine.specs.Cluster.{Cluster}
use Rattle.cl_machine.specs.Journal.{reply_in}
use Rattle.cl_order_laws.specs.Alike.{Leads}
use Rattle.cl_order_laws.specs.Orders.{is_miss}
use Rattle.cl_replay.specs.declared.states.ClusterState.{ClusterState}
use Rattle.cl_replay.specs.States.{ClusterStandsFor}
use Rattle.cl_moves.specs.declared.single.Whose.{Whose}

-- whichever cluster the state is, each turn of this hart of this rank that leads anywhere from it is one of these
abbrev pub HasAllTurns : ClusterState → ℕ → ℕ → List Step → Type 0
HasAllTurns state rank hart turns =
    (image : ImageParts) (cluster new : Cluster) (e : Step) → ClusterStandsFor image state cluster → e.rank ≡ rank
    → e.hart ≡ hart → Leads cluster e new
    → (i : ℕ) × (slice_get turns i ≡ Some e)

-- a turn of this hart of this rank, at a stamp that a step may have
pub record IsTurnOf (rank hart : ℕ) (e : Step) : Type 0 where
  pub rank_is : e.rank ≡ rank
  pub hart_is : e.hart ≡ hart
  pub low : e.stamp < 2 ^ 62

abbrev pub AreTurnsOf : ℕ → ℕ → List Step → Type 0
AreTurnsOf rank hart turns = (i : ℕ) (e : Step) → slice_get turns i ≡ Some e → IsTurnOf rank hart e

-- at most one of the turns misses, and at most one doesn't
abbrev pub AreApart : List Step → Type 0
AreApart turns =
    (i j : ℕ) (e f : Step) → slice_get turns i ≡ Some e → slice_get turns j ≡ Some f
    → is_miss e.kind ≡ is_miss f.kind
    → e ≡ f

-- ---- by what is asked

-- of this kind, at the stamp behind its rank's clock
abbrev pub IsNext : Step → Rank → Kind → Type 0
IsNext e rank kind = (e.kind ≡ kind) × (e.stamp ≡ rank.clock + 1)

-- of this kind, and meets what is in a box
abbrev pub Sees : Cluster → Step → Rank → ℕ → ℕ → Kind → Type 0
Sees old e rank link part kind =
    (e.kind ≡ kind) × (box : Box) × (slice_get old.boxes (box_number link part) ≡ Some box)
    × (e.stamp ≡ max rank.clock box.stamp + 1)

-- a turn of a hart that asks this
abbrev pub IsMove : Cluster → Step → Rank → Ask → Type 0
IsMove old e rank Ask.Plain = IsNext e rank Kind.Plain
IsMove old e rank Ask.Local = IsNext e rank Kind.Local
IsMove old e rank Ask.Held = IsNext e rank Kind.Held
IsMove old e rank Ask.Idle = IsNext e rank Kind.Idle
IsMove old e rank (Ask.Ready link part bytes) = IsNext e rank Kind.Ready
IsMove old e rank (Ask.Look link part) = IsNext e rank Kind.Miss ⊎ Sees old e rank link part Kind.Take
IsMove old e rank (Ask.Freed link part) = IsNext e rank Kind.Miss ⊎ Sees old e rank link part Kind.Freed
IsMove old e rank (Ask.Hub request) =
    (e.kind ≡ Kind.Hub (reply_in old.journal e.rank request)) × (e.stamp ≡ max rank.clock old.journal.clock + 1)

-- whichever cluster the state is, each move of a hart that asks this is one of these
abbrev pub HasMoves : ClusterState → Whose → Ask → List Step → Type 0
HasMoves state whose ask turns =
    (image : ImageParts) (cluster : Cluster) (e : Step) (rank : Rank) → ClusterStandsFor image state cluster
    → rank.clock ≡ whose.clock → e.rank ≡ whose.rank → e.hart ≡ whose.hart → IsMove cluster e rank ask
    → (i : ℕ) × (slice_get turns i ≡ Some e)

-- ---- single turns

abbrev pub turn_at : Whose → ℕ → Kind → Step
turn_at whose stamp kind = record { rank = whose.rank; hart = whose.hart; stamp = stamp; kind = kind }

-- the turn that sees what has been in a box since its stamp
abbrev pub seen : Whose → Kind → Option Settled → List Step
seen whose kind None = []
seen whose kind (Some settled) = turn_at whose (max whose.clock settled.stamp + 1) kind ∷ []

-- a look misses, or sees
abbrev pub looks : Whose → Kind → Option Settled → List Step
looks whose kind settled = turn_at whose (whose.clock + 1) Kind.Miss ∷ seen whose kind settled
