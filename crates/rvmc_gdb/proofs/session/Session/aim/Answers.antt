use Rattle.rvmc_gdb.proofs.Methods.{aim_some}
use Rattle.rvmc_gdb.proofs.session.Session.aim.Goals as goal

pub returns-in_ok-text-in-Some : goal.returns-in_ok-text-in-Some
returns-in_ok-text-in-Some c =
    aim_some c.args.none.now c.args.self.now _ c.tell.new.self c.args.goal c.in-Some.goal c.in_ok-text-in-Some.text.items
    c.self.view_is c.in-Some.is c.in_ok-text-in-Some.ensures.kept c.in_ok-text-in-Some.ensures.told
