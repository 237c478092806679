use Rattle.std.proofs.Common.{◌≡◌, ◌++◌, take}
use Rattle.std.specs.List.{flat_map}
use Rattle.rvmc_draw.specs.Board.{message}
use Rattle.rvmc_draw.proofs.board.Board.put_messages.Given as goal

-- those so far
abbrev pub invariant-loop-number : goal.invariant-loop-number
invariant-loop-number l =
    l.arrows.items
    ≡ l.fn.arrows.items
    ++ flat_map (message l.self.lines.items l.self.spots.items l.to) (take l.number-index l.numbers)
