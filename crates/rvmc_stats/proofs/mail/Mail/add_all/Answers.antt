use Rattle.rvmc_stats.proofs.Mails.{more_got}
use Rattle.rvmc_stats.proofs.mail.Mail.add_all.Goals as goal

pub loop-got-preserved : goal.loop-got-preserved
loop-got-preserved c =
    more_got c.args.self.now c.loop-got.self c.add_if_any.new.self c.args.to c.args.gots.now c.loop-got.got-index
    c.got-item.result c.loop-got-test.true c.got-item.is c.loop-got.invariant c.add_if_any.ensures
