use Rattle.std.proofs.Common.{◌≡◌, take}
use Rattle.rv_memory.proofs.kept.live_pages.Given as goal

-- the pages so far are there again
abbrev pub invariant-loop-page : goal.invariant-loop-page
invariant-loop-page l = l.pages.items ≡ take l.page-index l.kept
