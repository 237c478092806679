use Rattle.rvmc_stats.proofs.Ranges.{more_lines}
use Rattle.rvmc_stats.specs.Texts.{call_lines}
use Rattle.rvmc_stats.proofs.texts.put_all_call_lines.Goals as goal

pub loop-number-preserved : goal.loop-number-preserved
loop-number-preserved c =
    more_lines (call_lines c.args.tables.now) c.loop-number.number c.args.text.now.items c.loop-number.text.items c.put_call_lines.new.text.items
    c.loop-number.invariant c.in_ok-put_call_lines.ensures
