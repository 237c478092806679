use Rattle.std.proofs.Common.{◌≡◌, ◌++◌, take}
use Rattle.std.specs.List.{flat_map}
use Rattle.rvmc_page.specs.Told.{arrow_text}
use Rattle.rvmc_page.proofs.told.put_arrows.Given as goal

-- those so far
abbrev pub invariant-loop-arrow : goal.invariant-loop-arrow
invariant-loop-arrow l = l.text.items ≡ l.fn.text.items ++ flat_map arrow_text (take l.arrow-index l.arrows)
