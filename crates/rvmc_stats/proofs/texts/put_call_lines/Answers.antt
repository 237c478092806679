use Rattle.rvmc_stats.proofs.Ranges.{more_lines}
use Rattle.rvmc_stats.specs.Texts.{call_line}
use Rattle.rvmc_stats.proofs.texts.put_call_lines.Goals as goal

pub loop-outcome-preserved : goal.loop-outcome-preserved
loop-outcome-preserved c =
    more_lines (call_line c.args.tables.now c.args.number) c.loop-outcome.outcome c.args.text.now.items c.loop-outcome.text.items c.put_call_line.new.text.items
    c.loop-outcome.invariant c.in_ok-put_call_line.ensures
