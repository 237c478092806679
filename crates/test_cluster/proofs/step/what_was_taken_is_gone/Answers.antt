use Rattle.test_cluster.proofs.Taking.{gone}
use Rattle.test_cluster.proofs.Turning.{on_ok}
use Rattle.test_cluster.proofs.step.what_was_taken_is_gone.Goals as goal

pub returns : goal.returns
returns c = λ image cluster link part stands takes.
    on_ok c.step.result (gone image cluster c.args.state.now c.step.new.self c.args.step.now link part stands takes)
    c.step.ensures.leads
