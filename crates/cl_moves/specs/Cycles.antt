-- A rank that takes turns by itself and comes back to where it was.
use Rattle.std.specs.Prelude.{ℕ, ◌+◌, ◌%◌, ◌<◌, ◌≡◌, ◌⊎◌, List, length, slice_get, Option, Some, None}
use Rattle.rv_image_types.specs.declared.images.ImageParts.{ImageParts}
use Rattle.cl_deeds.specs.Orders.{in_slot}
use Rattle.cl_state.specs.declared.state.RankState.{RankState}
use Rattle.cl_state.specs.Rank.{Rank}
use Rattle.cl_state.specs.Room.{rank_of}
use Rattle.cl_state.specs.Same.{IsSameBeside}
use Rattle.cl_state_laws.specs.VainLaws.{at_clock}
use Rattle.cl_order_laws.specs.Closed.{IsAhead, IsSamePlace, Node}
use Rattle.cl_moves.specs.Standing.{IsWay, StandsAt, by_order}
use Rattle.cl_moves.specs.declared.cycles.Watch.{Watch}
use Rattle.cl_moves.specs.declared.standing.Standing.{Standing}

-- ---- for ever

-- the rank goes round by itself: however many turns it takes, each of them needs only the rank, and after each so many it
-- holds what it held before them, at a later clock
pub record GoesRound (plan : ℕ → ℕ) (rank : Rank) (had : ℕ) : Type 0 where
  pub period : ℕ
  pub some : 0 < period
  pub place : IsSamePlace plan (had + period) had
  pub on : (turns : ℕ) → (then : Rank) × IsAhead plan turns rank had then (had + turns)
  pub round : (turns : ℕ) (then again : Rank) (after last : ℕ) → IsAhead plan turns rank had then after
      → IsAhead plan (turns + period) rank had again last
      → again ≡ at_clock then again.clock

-- whichever node the old standing was, this rank of the new one goes round by itself
abbrev pub GoesRoundAt : List ℕ → Standing → Standing → ℕ → Type 0
GoesRoundAt order old new r =
    (image : ImageParts) (start here : Node) → StandsAt image old here → IsWay (by_order order) start old.steps.items here
    → (own : RankState) × (had : ℕ) × (slice_get new.cluster.ranks.items r ≡ Some own)
    × (slice_get new.had.items r ≡ Some had)
    × GoesRound (in_slot order) (rank_of own) had

-- ---- what is watched

-- they hold the same: only their sites and their clocks may differ
pub record IsSameRank (a b : Rank) : Type 0 where
  pub harts : a.harts ≡ b.harts
  pub requests : a.requests ≡ b.requests
  pub beside : IsSameBeside a b

-- what is kept of a rank that is watched
abbrev pub kept_in : Watch → Option Rank
kept_in watch = watch.kept

-- something was kept, and the rank holds the same
abbrev pub IsBack : Option Rank → Rank → Type 0
IsBack None rank = ⊥
IsBack (Some kept) rank = IsSameRank kept rank

-- what is kept once a rank was shown: what was kept before, or this rank, or nothing
abbrev pub KeepsShown : Option Rank → Rank → Option Rank → Type 0
KeepsShown old rank new = (new ≡ old) ⊎ ((new ≡ Some rank) ⊎ (new ≡ None))

-- this rank is there, and the first place of the order is next in it
pub record IsShown (order : List ℕ) (standing : Standing) (r : ℕ) : Type 0 where
  pub own : RankState
  pub had : ℕ
  pub there : slice_get standing.cluster.ranks.items r ≡ Some own
  pub turns : slice_get standing.had.items r ≡ Some had
  pub first : had % length order ≡ 0

-- it is shown, and holds what was kept
abbrev pub IsBackAt : List ℕ → Standing → ℕ → Watch → Type 0
IsBackAt order standing r watch = (shown : IsShown order standing r) × IsBack (kept_in watch) (rank_of shown.own)

-- nothing else is kept than before, or it is shown
abbrev pub KeepsAt : List ℕ → Standing → ℕ → Watch → Watch → Type 0
KeepsAt order standing r old new =
    (kept_in new ≡ kept_in old)
    ⊎ ((shown : IsShown order standing r) × KeepsShown (kept_in old) (rank_of shown.own) (kept_in new))
