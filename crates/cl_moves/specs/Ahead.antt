-- Turns that need only their rank, taken one after another.
use Rattle.std.specs.Prelude.{ℕ, ◌+◌, ◌≡◌, ◌<◌, ◌^◌, List, length, slice_get, Option, Some, None}
use Rattle.rv_image_types.specs.declared.images.ImageParts.{ImageParts}
use Rattle.cl_deeds.specs.Orders.{in_slot}
use Rattle.cl_state.specs.declared.asking.Ask.{Ask}
use Rattle.cl_state.specs.declared.state.RankState.{RankState}
use Rattle.cl_state.specs.Asked.{asked}
use Rattle.cl_state.specs.Rank.{Rank}
use Rattle.cl_state.specs.Room.{rank_of}
use Rattle.cl_trace.specs.Traces.{kind_of_bare}
use Rattle.cl_trace.specs.declared.events.Bare.{Bare}
use Rattle.cl_trace.specs.declared.events.Kind.{Kind}
use Rattle.cl_machine.specs.declared.steps.Step.{Step}
use Rattle.cl_order_laws.specs.Closed.{IsAhead, Node, Plans}
use Rattle.cl_moves.specs.Standing.{IsWay, StandsAt, by_order}
use Rattle.cl_moves.specs.declared.standing.Standing.{Standing}

-- a turn of this kind is what is asked, and it needs only its rank
abbrev pub IsAloneKind : Ask → Kind → Type 0
IsAloneKind Ask.Plain kind = kind ≡ Kind.Plain
IsAloneKind Ask.Local kind = kind ≡ Kind.Local
IsAloneKind Ask.Idle kind = kind ≡ Kind.Idle
IsAloneKind _ kind = ⊥

abbrev pub IsAloneIfSome : Ask → Option Bare → Type 0
IsAloneIfSome ask None = Unit {0}
IsAloneIfSome ask (Some kind) = IsAloneKind ask (kind_of_bare kind)

-- the next turn of a rank, which needs only the rank
pub record IsAloneTurn (order : List ℕ) (standing : Standing) (rank : ℕ) (e : Step) : Type 0 where
  pub own : RankState
  pub had : ℕ
  pub there : slice_get standing.cluster.ranks.items rank ≡ Some own
  pub turns : slice_get standing.had.items rank ≡ Some had
  pub rank_is : e.rank ≡ rank
  pub hart_is : e.hart ≡ in_slot order had
  pub inside : e.hart < length own.harts.items
  pub stamp_is : e.stamp ≡ own.clock + 1
  pub low : e.stamp < 2 ^ 62
  pub alone : IsAloneKind (asked (rank_of own) e.hart) e.kind

abbrev pub IsAloneNext : List ℕ → Standing → ℕ → Option Step → Type 0
IsAloneNext order standing rank None = Unit {0}
IsAloneNext order standing rank (Some e) = IsAloneTurn order standing rank e

-- some turns of the rank that need only itself lead from the one to the other
abbrev pub IsAheadOf : (ℕ → ℕ) → Rank → ℕ → Rank → ℕ → Type 0
IsAheadOf plan rank had then after = (turns : ℕ) × IsAhead plan turns rank had then after

-- each rank took some turns that need only itself, and nothing else changed
pub record WentAhead (plans : Plans) (here there : Node) : Type 0 where
  pub many : length there.cluster.ranks ≡ length here.cluster.ranks
  pub ranks : (r : ℕ) (rank : Rank) → slice_get here.cluster.ranks r ≡ Some rank
      → (then : Rank) × (slice_get there.cluster.ranks r ≡ Some then)
      × IsAheadOf (plans r) rank (here.had r) then (there.had r)
  pub journal : there.cluster.journal ≡ here.cluster.journal
  pub boxes : there.cluster.boxes ≡ here.cluster.boxes

-- whichever node the old standing was, the new one is one to which its ranks went ahead
abbrev pub GoesAhead : List ℕ → Standing → Standing → Type 0
GoesAhead order old new =
    (image : ImageParts) (start here : Node) → StandsAt image old here → IsWay (by_order order) start old.steps.items here
    → (there : Node) × StandsAt image new there × IsWay (by_order order) start new.steps.items there
    × WentAhead (by_order order) here there
