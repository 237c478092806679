use Rattle.rvmc_answers.specs.Plans.{ArePlansOf}
use Rattle.rvmc_answers.proofs.plans.plans.Given as goal

-- the plans of the ranks so far
abbrev pub invariant-loop-rank : goal.invariant-loop-rank
invariant-loop-rank l = ArePlansOf l._rank l.harts l.budget l.plans.items
