use Rattle.rvmc_list.specs.Placing.{ArePlaced}
use Rattle.rvmc_list.proofs.places.put_place_lines.Given as goal

-- the lines so far
abbrev pub invariant-loop-n : goal.invariant-loop-n
invariant-loop-n l = ArePlaced l.symbols l.places l._n l.last l.fn.text.items l.text.items
