use Rattle.std.proofs.Common.{◌≡◌, ◌++◌, drop}
use Rattle.cl_state.specs.Room.{rank_of}
use Rattle.rvmc_inspect.specs.Texts.{harts_from, hart_waits_text}
use Rattle.rvmc_inspect.proofs.harts.put_harts.Given as goal

-- the lines so far, and those of the harts that are left
abbrev pub invariant-loop-number : goal.invariant-loop-number
invariant-loop-number l =
    l.fn.text.items ++ hart_waits_text l.framed l.symbols l.hub l.boxes l.rank (rank_of l.own)
    ≡ l.text.items ++ harts_from l.framed l.symbols l.hub l.boxes l.rank (rank_of l.own) l.number (drop l.number l.own.harts.items)
