use Rattle.rvmc_gdb.proofs.Methods.{why_printed}
use Rattle.rvmc_gdb.proofs.session.Session.why.Goals as goal

pub returns : goal.returns
returns c = why_printed _ _ c.image.result.now c.state.result.now _ c.self.view_is c.state.ensures c.image.ensures c.in_ok-why.ensures
