use Rattle.std.proofs.Common.{◌≡◌, ◌++◌, take}
use Rattle.rvmc_draw.specs.Board.{partners_of}
use Rattle.rvmc_draw.proofs.board.put_partners.Given as goal

-- those so far
abbrev pub invariant-loop-number : goal.invariant-loop-number
invariant-loop-number l = l.got.items ≡ l.fn.got.items ++ partners_of l.lines (take l.number-index l.numbers)
