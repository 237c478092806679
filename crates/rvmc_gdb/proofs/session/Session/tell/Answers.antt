use Rattle.rvmc_gdb.proofs.Methods.{goal_told}
use Rattle.rvmc_gdb.proofs.session.Session.tell.Goals as goal

pub returns-clause-told : goal.returns-clause-told
returns-clause-told c = goal_told _ _ c.args.goal c.in_ok-text.text.items c.self.view_is c.in_ok-text.ensures.told
