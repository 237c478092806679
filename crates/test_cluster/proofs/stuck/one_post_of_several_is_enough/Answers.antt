use Rattle.std.specs.Prelude.{◌≡◌, false, true}
use Rattle.cl_deadlock.specs.Stuck.{IsFreeIn}
use Rattle.test_cluster.proofs.Stopping.{is_held, of_ok}
use Rattle.test_cluster.proofs.stuck.one_post_of_several_is_enough.Goals as goal

pub returns : goal.returns
returns c = λ image cluster is waits.
    of_ok c.is_stuck_beside.result (λ stuck. stuck ≡ false → IsFreeIn c.args.among.now c.args.state.now c.args.rank) (λ stuck. stuck ≡ true)
    (λ stuck free. is_held c.args.among.now cluster c.args.rank waits stuck (λ no. free no image cluster is)) c.is_stuck_beside.ensures.free
