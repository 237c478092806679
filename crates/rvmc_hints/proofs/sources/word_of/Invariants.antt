-- Each turn leaves fewer bytes.
use Rattle.std.proofs.Common.{length}
use Rattle.rvmc_hints.proofs.sources.word_of.Given as goal

abbrev pub decreases-loop-found : goal.decreases-loop-found
decreases-loop-found l = length l.rest
