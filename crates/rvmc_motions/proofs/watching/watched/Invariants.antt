use Rattle.std.proofs.Common.{◌≡◌, drop}
use Rattle.rvmc_motions.specs.Watching.{watched}
use Rattle.rvmc_motions.proofs.watching.watched.Given as goal

-- none so far
abbrev pub invariant-loop-seen : goal.invariant-loop-seen
invariant-loop-seen l = watched l.memory l.all ≡ watched l.memory (drop l.seen-index l.all)
