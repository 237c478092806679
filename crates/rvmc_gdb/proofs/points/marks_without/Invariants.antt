use Rattle.std.proofs.Common.{◌≡◌, take}
use Rattle.rvmc_gdb.specs.Points.{marks_without}
use Rattle.rvmc_gdb.proofs.points.marks_without.Given as goal

-- of the marks so far
abbrev pub invariant-loop-other : goal.invariant-loop-other
invariant-loop-other l = l.left.items ≡ marks_without (take l.other-index l.marks) l.mark
