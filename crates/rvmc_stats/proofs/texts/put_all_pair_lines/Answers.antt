use Rattle.rvmc_stats.proofs.Ranges.{more_lines}
use Rattle.rvmc_stats.specs.Texts.{pair_lines}
use Rattle.rvmc_stats.proofs.texts.put_all_pair_lines.Goals as goal

pub loop-from-preserved : goal.loop-from-preserved
loop-from-preserved c =
    more_lines (pair_lines c.args.mail.now) c.loop-from.from c.args.text.now.items c.loop-from.text.items c.put_pair_lines.new.text.items
    c.loop-from.invariant c.in_ok-put_pair_lines.ensures
