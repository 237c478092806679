use Rattle.rvmc_stats.proofs.Ranges.{more_lines}
use Rattle.rvmc_stats.specs.Texts.{column_text}
use Rattle.rvmc_stats.proofs.lines.put_columns.Goals as goal

pub loop-column-preserved : goal.loop-column-preserved
loop-column-preserved c =
    more_lines (column_text c.args.tables.now c.args.rank) c.loop-column.column c.args.text.now.items c.loop-column.text.items c.put_column.new.text.items
    c.loop-column.invariant c.in_ok-put_column.ensures
