use Rattle.std.proofs.Common.{◌≡◌, ◌++◌, length, reverse}
use Rattle.cl_explore.proofs.stepping.turned.Given as goal

abbrev pub invariant-rest : goal.invariant-rest
invariant-rest l = l.steps.items ++ reverse l.back.items ≡ reverse l.fn.back.items

abbrev pub decreases-rest : goal.decreases-rest
decreases-rest l = length l.back.items
