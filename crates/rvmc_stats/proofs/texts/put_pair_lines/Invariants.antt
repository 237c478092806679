use Rattle.std.specs.Prelude.{◌≡◌, ◌++◌}
use Rattle.std.specs.List.{flat_map}
use Rattle.rvmc_stats.specs.Texts.{numbers_below, pair_line}
use Rattle.rvmc_stats.proofs.texts.put_pair_lines.Given as goal

-- the lines so far
abbrev pub invariant-loop-to : goal.invariant-loop-to
invariant-loop-to l = l.text.items ≡ l.fn.text.items ++ flat_map (pair_line l.mail l.from) (numbers_below l.to)
