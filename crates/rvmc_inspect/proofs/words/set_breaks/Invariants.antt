use Rattle.std.proofs.Common.{◌≡◌, drop}
use Rattle.rvmc_inspect.specs.Words.{with_breaks}
use Rattle.rvmc_inspect.proofs.words.set_breaks.Given as goal

-- with the breaks that are left it is as asked, and its image is the same
abbrev pub invariant-loop-pc : goal.invariant-loop-pc
invariant-loop-pc l =
    (with_breaks l.debugger l.rank l.hart (drop l.pc-index l.pcs) ≡ with_breaks l.fn.debugger l.rank l.hart l.pcs)
    × (l.debugger.image ≡ l.fn.debugger.image)
