use Rattle.std.proofs.Common.{◌≡◌, ◌++◌}
use Rattle.std.specs.List.{flat_map, range_with_len}
use Rattle.rvmc_draw.specs.Board.{lost_from}
use Rattle.rvmc_draw.proofs.board.Board.put_lost.Given as goal

-- those of the places so far
abbrev pub invariant-loop-place : goal.invariant-loop-place
invariant-loop-place l =
    l.arrows.items
    ≡ l.fn.arrows.items
    ++ flat_map (lost_from l.view l.self.lines.items l.self.spots.items l.self.got.items) (range_with_len 0 l.place)
