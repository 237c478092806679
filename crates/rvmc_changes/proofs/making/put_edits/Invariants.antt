use Rattle.std.proofs.Common.{◌≡◌, ◌++◌, take}
use Rattle.rvmc_changes.specs.Edits.{edits_from}
use Rattle.rvmc_changes.proofs.making.put_edits.Given as goal

-- those of the bytes so far
abbrev pub invariant-loop-n : goal.invariant-loop-n
invariant-loop-n l = l.edits.items ≡ l.fn.edits.items ++ edits_from l.address (take l.n l.olds) (take l.n l.news)
