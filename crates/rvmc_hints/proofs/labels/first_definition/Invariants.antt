-- Each turn leaves fewer bytes.
use Rattle.std.proofs.Common.{length}
use Rattle.rvmc_hints.proofs.labels.first_definition.Given as goal

abbrev pub decreases-loop-line : goal.decreases-loop-line
decreases-loop-line l = length l.rest
