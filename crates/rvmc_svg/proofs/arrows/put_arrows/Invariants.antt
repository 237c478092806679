use Rattle.std.specs.Prelude.{take}
use Rattle.rvmc_svg.specs.Adding.{AddsWanted}
use Rattle.rvmc_svg.proofs.arrows.put_arrows.Given as goal

-- those so far
abbrev pub invariant-loop-arrow : goal.invariant-loop-arrow
invariant-loop-arrow l = AddsWanted l.could (take l.arrow-index l.arrows) l.fn.text.items l.text.items
