use Rattle.std.specs.Prelude.{◌≡◌, ◌++◌}
use Rattle.std.specs.List.{flat_map}
use Rattle.rvmc_stats.specs.Texts.{numbers_below, column_text}
use Rattle.rvmc_stats.proofs.lines.put_columns.Given as goal

-- the columns so far
abbrev pub invariant-loop-column : goal.invariant-loop-column
invariant-loop-column l = l.text.items ≡ l.fn.text.items ++ flat_map (column_text l.tables l.rank) (numbers_below l.column)
