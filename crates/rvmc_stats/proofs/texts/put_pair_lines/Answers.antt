use Rattle.rvmc_stats.proofs.Ranges.{more_lines}
use Rattle.rvmc_stats.specs.Texts.{pair_line}
use Rattle.rvmc_stats.proofs.texts.put_pair_lines.Goals as goal

pub loop-to-preserved : goal.loop-to-preserved
loop-to-preserved c =
    more_lines (pair_line c.args.mail.now c.args.from) c.loop-to.to c.args.text.now.items c.loop-to.text.items c.put_pair_line.new.text.items
    c.loop-to.invariant c.in_ok-put_pair_line.ensures
