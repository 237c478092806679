use Rattle.std.proofs.Common.{refl}
use Rattle.rvmc_gdb.proofs.Methods.{go_stays}
use Rattle.rvmc_gdb.proofs.session.Session.go_to.Goals as goal

pub returns-in_ok-refusal-in-Err : goal.returns-in_ok-refusal-in-Err
returns-in_ok-refusal-in-Err c =
    go_stays _ _ _ c.args.n c.in-Err.fault _ c.self.view_is refl c.in-Err.ensures.unchanged c.in-Err.ensures.fault
    c.in_ok-refusal-in-Err.ensures.memory c.in_ok-refusal-in-Err.ensures.told
