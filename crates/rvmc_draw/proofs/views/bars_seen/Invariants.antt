use Rattle.std.proofs.Common.{◌≡◌, take}
use Rattle.std.specs.List.{flat_map}
use Rattle.rvmc_draw.specs.Views.{bar_in_view}
use Rattle.rvmc_draw.proofs.views.bars_seen.Given as goal

-- those so far
abbrev pub invariant-loop-bar : goal.invariant-loop-bar
invariant-loop-bar l = l.seen.items ≡ flat_map (bar_in_view l.view) (take l.bar-index l.bars)
