use Rattle.std.proofs.Common.{◌≡◌, drop}
use Rattle.rvmc_motions.specs.Marks.{broken}
use Rattle.rvmc_motions.proofs.marks.broken.Given as goal

-- none so far
abbrev pub invariant-loop-mark : goal.invariant-loop-mark
invariant-loop-mark l = broken l.rank l.pc l.marks ≡ broken l.rank l.pc (drop l.mark-index l.marks)
