use Rattle.std.specs.Prelude.{◌≡◌, ◌++◌}
use Rattle.std.specs.List.{flat_map}
use Rattle.rvmc_stats.specs.Texts.{numbers_below, turn_line}
use Rattle.rvmc_stats.proofs.texts.put_turn_lines.Given as goal

-- the lines so far
abbrev pub invariant-loop-rank : goal.invariant-loop-rank
invariant-loop-rank l = l.text.items ≡ l.fn.text.items ++ flat_map (turn_line l.tables) (numbers_below l.rank)
