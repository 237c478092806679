-- What is told of one step of a motion, and of the places on the way.
use Rattle.std.specs.Prelude.{ℕ, ◌≡◌, ◌<◌, ◌≤◌, ◌⊎◌, ◌+◌, ◌-◌, List, slice_get, Option, Some, None}
use Rattle.std.specs.Option.{option_or}
use Rattle.std.proofs.Common.{refl, sym, ap, ◌∙◌, arith, inl, inr}
use Rattle.std.proofs.lemmas.Bool.{cases_order}
use Rattle.cl_state.specs.Rank.{Rank}
use Rattle.cl_machine.specs.Cluster.{Cluster}
use Rattle.cl_machine.specs.declared.steps.Step.{Step}
use Rattle.rvmc_motions.specs.declared.marks.Halt.{Halt}
use Rattle.rvmc_motions.specs.declared.marks.Mark.{Mark}
use Rattle.rvmc_motions.specs.declared.marks.Mover.{Mover}
use Rattle.rvmc_protocol.specs.declared.replies.stops.Stop.TheVariants as ends
use Rattle.rvmc_motions.specs.Motions.{IsFirstBehind, IsLastBefore, halt_at}
use Rattle.rvmc_motions.specs.declared.turns.Whose.{Whose}
use Rattle.rvmc_motions.specs.declared.marks.Motion.{Motion}
use Rattle.rvmc_motions.specs.declared.marks.Motion.TheVariants as motions
use Rattle.rvmc_motions.specs.Turns.{backward_stop, break_at, forward_stop, is_live, next_at, own_turn, place_stop, stop_behind}
use Rattle.rvmc_motions.specs.Turns.{stop_between, turn_at, turn_stop}
use Rattle.rvmc_motions.specs.Watching.{seen_all}
use Rattle.rvmc_motions.specs.Walking.{IsLastIn, later}

module _ (mover : Mover) (marks : List Mark) (steps : List Step) (history : ℕ → Cluster) (place : ℕ) where
  -- a turn of one of the ranks
  pub own_told : (turn : Whose) (before behind : Rank) (told : Option Halt)
      → own_turn mover.ranks (slice_get steps place) ≡ Some turn
      → slice_get (history place).ranks turn.rank ≡ Some before
      → slice_get (history (place + 1)).ranks turn.rank ≡ Some behind
      → told ≡ stop_behind mover turn (is_live (slice_get before.harts turn.hart)) (seen_all before turn.rank turn.hart marks) behind
      → told ≡ turn_at mover marks steps history place
  own_told turn before behind told own b c is =
      is ∙ ap (λ o. stop_between mover marks turn o (Some behind)) (sym b)
      ∙ ap (stop_between mover marks turn (slice_get (history place).ranks turn.rank)) (sym c)
      ∙ ap (λ o. turn_stop mover marks o (history place) (history (place + 1))) (sym own)

  -- of a rank that isn't there, before it or behind it
  pub none_before_told : (turn : Whose) → own_turn mover.ranks (slice_get steps place) ≡ Some turn
      → slice_get (history place).ranks turn.rank ≡ None → None ≡ turn_at mover marks steps history place
  none_before_told turn own none =
      ap (λ o. stop_between mover marks turn o (slice_get (history (place + 1)).ranks turn.rank)) (sym none)
      ∙ ap (λ o. turn_stop mover marks o (history place) (history (place + 1))) (sym own)

  no_rank : (turn : Whose) (before : Option Rank) → None ≡ stop_between mover marks turn before None
  no_rank turn None = refl
  no_rank turn (Some before) = refl

  pub none_behind_told : (turn : Whose) → own_turn mover.ranks (slice_get steps place) ≡ Some turn
      → slice_get (history (place + 1)).ranks turn.rank ≡ None → None ≡ turn_at mover marks steps history place
  none_behind_told turn own none =
      no_rank turn (slice_get (history place).ranks turn.rank)
      ∙ ap (stop_between mover marks turn (slice_get (history place).ranks turn.rank)) (sym none)
      ∙ ap (λ o. turn_stop mover marks o (history place) (history (place + 1))) (sym own)

  -- what comes next: for a step nothing, and for a run what the turn's rank has there
  pub next_step : mover.motion ≡ motions.Step → None ≡ next_at mover marks steps history place
  next_step step =
      ap (λ m. place_stop m marks (own_turn mover.ranks (slice_get steps place)) (history place)) (sym step)

  no_turn : (motion : Motion) → None ≡ place_stop motion marks None (history place)
  no_turn motions.Step = refl
  no_turn motions.Run = refl

  pub next_other : own_turn mover.ranks (slice_get steps place) ≡ None → None ≡ next_at mover marks steps history place
  next_other other =
      no_turn mover.motion ∙ ap (λ o. place_stop mover.motion marks o (history place)) (sym other)

  pub next_told : (turn : Whose) (owner : Option Rank) (told : Option Halt) → mover.motion ≡ motions.Run
      → own_turn mover.ranks (slice_get steps place) ≡ Some turn → slice_get (history place).ranks turn.rank ≡ owner
      → told ≡ break_at marks turn owner → told ≡ next_at mover marks steps history place
  next_told turn owner told run own there is =
      is ∙ ap (break_at marks turn) (sym there)
      ∙ ap (λ o. place_stop motions.Run marks o (history place)) (sym own)
      ∙ ap (λ m. place_stop m marks (own_turn mover.ranks (slice_get steps place)) (history place)) (sym run)

  -- and of any other
  pub other_told : own_turn mover.ranks (slice_get steps place) ≡ None → None ≡ turn_at mover marks steps history place
  other_told other =
      sym (ap (λ o. turn_stop mover marks o (history place) (history (place + 1))) other)

  -- behind the step
  pub forward_is : (turn next : Option Halt) → turn ≡ turn_at mover marks steps history place
      → next ≡ next_at mover marks steps history (place + 1)
      → option_or turn next ≡ forward_stop mover marks steps history (place + 1)
  forward_is turn next here there =
      let same : place ≡ place + 1 - 1 = omega arith in
      ap (λ x. option_or x next) (here ∙ ap (turn_at mover marks steps history) same)
      ∙ ap (option_or (turn_at mover marks steps history (place + 1 - 1))) there

  -- before it
  pub backward_is : (turn next : Option Halt) → turn ≡ turn_at mover marks steps history place
      → next ≡ next_at mover marks steps history place
      → option_or turn next ≡ backward_stop mover marks steps history place
  backward_is turn next here there =
      ap (λ x. option_or x next) here ∙ ap (option_or (turn_at mover marks steps history place)) there

module _ (stops : ℕ → Option Halt) where
  -- none on the way, and none at the next place
  pub none_more : (from n : ℕ) → ((m : ℕ) → from < m → m ≤ n → stops m ≡ None) → stops (n + 1) ≡ None
      → (m : ℕ) → from < m → m ≤ n + 1 → stops m ≡ None
  none_more from n before here m above below = decided (cases_order m (n + 1))
    where
      decided : (m ≡ n + 1) ⊎ ((m < n + 1) ⊎ (n + 1 < m)) → stops m ≡ None
      decided (inl same) = ap stops same ∙ here
      decided (inr (inl low)) = before m above (omega (arith, low))
      decided (inr (inr high)) = absurd (omega (arith, high, below))

  pub first_here : (from length n : ℕ) (mover : Mover) (halt : Halt) → from ≤ n → n < length
      → ((m : ℕ) → from < m → m ≤ n → stops m ≡ None) → stops (n + 1) ≡ Some halt
      → IsFirstBehind stops from length mover (n + 1) halt
  first_here from length n mover halt above below none here =
      inl (omega (arith, above), omega (arith, below), here, λ m over under. none m over (omega (arith, under)))

  pub first_end : (from length : ℕ) (mover : Mover) → ((m : ℕ) → from < m → m ≤ length → stops m ≡ None)
      → IsFirstBehind stops from length mover length (halt_at ends.End mover)
  first_end from length mover none = inr (refl, refl, none)

  -- one place more on the way back
  pub later_in : (low n : ℕ) (found : Option (ℕ × Halt)) (here : Option Halt) → low ≤ n → IsLastIn stops low n found
      → stops n ≡ here → IsLastIn stops low (n + 1) (later found n here)
  later_in low n found (Some halt) above before here =
      (above, omega arith, here, λ m over under. absurd (omega (arith, over, under)))
  later_in low n None None above before here = λ m over under. decided m over under (cases_order m n)
    where
      decided : (m : ℕ) → low ≤ m → m < n + 1 → (m ≡ n) ⊎ ((m < n) ⊎ (n < m)) → stops m ≡ None
      decided m over under (inl same) = ap stops same ∙ here
      decided m over under (inr (inl below)) = before m over below
      decided m over under (inr (inr high)) = absurd (omega (arith, high, under))
  later_in low n (Some found) None above before here =
      let under_n = before.1 in
      (before.0, omega (arith, under_n), before.2, λ m over under. decided m over under (cases_order m n))
    where
      decided : (m : ℕ) → found.0 < m → m < n + 1 → (m ≡ n) ⊎ ((m < n) ⊎ (n < m)) → stops m ≡ None
      decided m over under (inl same) = ap stops same ∙ here
      decided m over under (inr (inl below)) = before.3 m over below
      decided m over under (inr (inr high)) = absurd (omega (arith, high, under))

  pub none_in : (low : ℕ) → IsLastIn stops low low None
  none_in low = λ m over under. absurd (omega (arith, over, under))

  -- what was found last before a place is the last one of all, if none is from there on
  pub last_here : (from low to : ℕ) (mover : Mover) (place : ℕ) (halt : Halt) → to ≤ from
      → IsLastIn stops low to (Some (place, halt)) → ((m : ℕ) → to ≤ m → m < from → stops m ≡ None)
      → IsLastBefore stops from mover place halt
  last_here from low to mover place halt within found none =
      let below = found.1 in
      inl (omega (arith, below, within), found.2, λ m over under. decided m over under (cases_order m to))
    where
      decided : (m : ℕ) → place < m → m < from → (m ≡ to) ⊎ ((m < to) ⊎ (to < m)) → stops m ≡ None
      decided m over under (inl same) = none m (omega (arith, same)) under
      decided m over under (inr (inl before)) = found.3 m over before
      decided m over under (inr (inr behind)) = none m (omega (arith, behind)) under

  pub none_before : (from low to : ℕ) → IsLastIn stops low to None → ((m : ℕ) → to ≤ m → m < from → stops m ≡ None)
      → (m : ℕ) → low ≤ m → m < from → stops m ≡ None
  none_before from low to found none m over under = decided (cases_order m to)
    where
      decided : (m ≡ to) ⊎ ((m < to) ⊎ (to < m)) → stops m ≡ None
      decided (inl same) = none m (omega (arith, same)) under
      decided (inr (inl before)) = found m over before
      decided (inr (inr behind)) = none m (omega (arith, behind)) under
