-- Each turn leaves fewer bytes.
use Rattle.std.proofs.Common.{length}
use Rattle.rvmc_hints.proofs.labels.near_in_line.Given as goal

abbrev pub decreases-loop-word : goal.decreases-loop-word
decreases-loop-word l = length l.rest
