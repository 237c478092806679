use Rattle.std.proofs.Common.{◌≡◌, drop}
use Rattle.rvmc_gdb.specs.Points.{has_mark}
use Rattle.rvmc_gdb.proofs.points.has_mark.Given as goal

-- none so far
abbrev pub invariant-loop-other : goal.invariant-loop-other
invariant-loop-other l = has_mark l.marks l.mark ≡ has_mark (drop l.other-index l.marks) l.mark
