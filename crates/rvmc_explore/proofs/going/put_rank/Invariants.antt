use Rattle.std.proofs.Common.{◌≡◌, ◌++◌, drop}
use Rattle.cl_state.specs.Room.{rank_of}
use Rattle.rvmc_explore.specs.HangTexts.{harts_going}
use Rattle.rvmc_explore.proofs.going.put_rank.Given as goal

-- the text so far, and the lines of the harts that are left
abbrev pub invariant-loop-number : goal.invariant-loop-number
invariant-loop-number l =
    l.fn.text.items ++ harts_going l.symbols l.order l.rank (rank_of l.own) 0 (rank_of l.own).harts
    ≡ l.text.items ++ harts_going l.symbols l.order l.rank (rank_of l.own) l.number (drop l.number l.own.harts.items)
