use Rattle.std.proofs.Common.{◌≡◌, ◌++◌}
use Rattle.std.specs.List.{flat_map, range_with_len}
use Rattle.rvmc_draw.specs.Board.{could_from}
use Rattle.rvmc_draw.proofs.board.Board.put_could_all.Given as goal

-- those of the sources so far
abbrev pub invariant-loop-source : goal.invariant-loop-source
invariant-loop-source l =
    l.arrows.items
    ≡ l.fn.arrows.items
    ++ flat_map (could_from l.self.lines.items l.self.spots.items l.to l.a) (range_with_len 0 l.source)
