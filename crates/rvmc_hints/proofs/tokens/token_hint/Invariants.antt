-- Each turn leaves fewer bytes.
use Rattle.std.proofs.Common.{length}
use Rattle.rvmc_hints.proofs.tokens.token_hint.Given as goal

abbrev pub decreases-loop-byte : goal.decreases-loop-byte
decreases-loop-byte l = length l.rest
