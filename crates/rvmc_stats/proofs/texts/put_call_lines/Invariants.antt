use Rattle.std.specs.Prelude.{◌≡◌, ◌++◌}
use Rattle.std.specs.List.{flat_map}
use Rattle.rvmc_stats.specs.Texts.{numbers_below, call_line}
use Rattle.rvmc_stats.proofs.texts.put_call_lines.Given as goal

-- the lines so far
abbrev pub invariant-loop-outcome : goal.invariant-loop-outcome
invariant-loop-outcome l = l.text.items ≡ l.fn.text.items ++ flat_map (call_line l.tables l.number) (numbers_below l.outcome)
