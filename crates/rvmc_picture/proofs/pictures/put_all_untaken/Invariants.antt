use Rattle.std.proofs.Common.{◌≡◌, take}
use Rattle.rvmc_picture.specs.Pictures.{arrows_with}
use Rattle.rvmc_picture.proofs.pictures.put_all_untaken.Given as goal

-- those so far
abbrev pub invariant-loop-one : goal.invariant-loop-one
invariant-loop-one l = l.arrows.items ≡ arrows_with l.links l.fn.arrows.items (take l.one-index l.untaken)
