use Rattle.std.proofs.Common.{ℕ, ◌≡◌, ◌<◌, Some, slice_get}
use Rattle.rvmc_explore.specs.declared.outcomes.Outcome.{Outcome}
use Rattle.rvmc_explore.proofs.outcomes.place_of.Given as goal

-- none of those before has it
abbrev pub invariant-loop-place : goal.invariant-loop-place
invariant-loop-place l =
    (k : ℕ) (outcome : Outcome) → k < l.place → slice_get l.told k ≡ Some outcome → outcome.body.items ≡ l.body → ⊥
