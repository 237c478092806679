use Rattle.std.specs.Prelude.{◌≡◌, ◌++◌}
use Rattle.std.specs.List.{flat_map}
use Rattle.rvmc_stats.specs.Texts.{numbers_below, pair_lines}
use Rattle.rvmc_stats.proofs.texts.put_all_pair_lines.Given as goal

-- the lines so far
abbrev pub invariant-loop-from : goal.invariant-loop-from
invariant-loop-from l = l.text.items ≡ l.fn.text.items ++ flat_map (pair_lines l.mail) (numbers_below l.from)
