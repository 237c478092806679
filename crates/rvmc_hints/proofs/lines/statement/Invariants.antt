-- Each turn leaves fewer bytes.
use Rattle.std.proofs.Common.{length}
use Rattle.rvmc_hints.proofs.lines.statement.Given as goal

abbrev pub decreases-loop-word : goal.decreases-loop-word
decreases-loop-word l = length l.rest
