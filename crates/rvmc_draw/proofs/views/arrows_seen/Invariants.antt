use Rattle.std.proofs.Common.{◌≡◌, take}
use Rattle.std.specs.List.{flat_map}
use Rattle.rvmc_draw.specs.Views.{arrow_in_view}
use Rattle.rvmc_draw.proofs.views.arrows_seen.Given as goal

-- those so far
abbrev pub invariant-loop-arrow : goal.invariant-loop-arrow
invariant-loop-arrow l = l.seen.items ≡ flat_map (arrow_in_view l.view) (take l.arrow-index l.arrows)
