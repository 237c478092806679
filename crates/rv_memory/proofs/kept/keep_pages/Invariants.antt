use Rattle.std.proofs.Common.{◌≡◌, take}
use Rattle.rv_memory.proofs.kept.keep_pages.Given as goal

-- the pages so far are kept
abbrev pub invariant-loop-n : goal.invariant-loop-n
invariant-loop-n l = l.kept.items ≡ take l.n l.pages
