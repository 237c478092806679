use Rattle.std.proofs.Common.{◌≡◌}
use Rattle.cl_state.specs.Rank.{below}
use Rattle.rvmc_answers.proofs.plans.all_below.Given as goal

-- the numbers so far
abbrev pub invariant-loop-number : goal.invariant-loop-number
invariant-loop-number l = l.numbers.items ≡ below l.number
