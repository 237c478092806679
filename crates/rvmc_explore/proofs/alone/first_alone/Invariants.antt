use Rattle.std.proofs.Common.{ℕ, ◌≡◌, ◌<◌, Some, slice_get, true}
use Rattle.rvmc_explore.proofs.alone.first_alone.Given as goal

abbrev pub invariant-loop-node : goal.invariant-loop-node
invariant-loop-node l = (i : ℕ) → i < l.node → slice_get l.all i ≡ Some true → slice_get l.others i ≡ Some true
