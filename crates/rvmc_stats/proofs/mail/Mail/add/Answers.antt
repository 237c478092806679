use Rattle.std.proofs.Common.{rules, ◌≡◌}
use Rattle.rvmc_stats.proofs.Mails.{one_more}
use Rattle.rvmc_stats.specs.declared.mail.Mail.{Mail}
use Rattle.rvmc_stats.proofs.mail.Mail.add.Goals as goal

pub returns : goal.returns
returns c =
    let new : Mail = record { messages = c.add.new.self; bytes = c.add-2.new.self } in
    one_more c.args.self.now new c.args.to c.args.message.now (search rules) (search rules)
