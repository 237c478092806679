use Rattle.rvmc_stats.proofs.Ranges.{more_lines}
use Rattle.rvmc_stats.specs.Texts.{turn_line}
use Rattle.rvmc_stats.proofs.texts.put_turn_lines.Goals as goal

pub loop-rank-preserved : goal.loop-rank-preserved
loop-rank-preserved c =
    more_lines (turn_line c.args.tables.now) c.loop-rank.rank c.args.text.now.items c.loop-rank.text.items c.put_turn_line.new.text.items
    c.loop-rank.invariant c.in_ok-put_turn_line.ensures
