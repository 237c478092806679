use Rattle.std.specs.Prelude.{IsTrue}
use Rattle.cl_deadlock.specs.Stuck.{HasStuckIn}
use Rattle.cl_deadlock_laws.specs.Stuck.{is_among}
use Rattle.test_cluster.proofs.Stopping.{is_among_them, of_ok}
use Rattle.test_cluster.proofs.stuck.who_has_ended_is_not_left_out.Goals as goal

pub returns : goal.returns
returns c = λ image cluster rank is ended.
    of_ok c.stuck.result (λ ranks. HasStuckIn ranks.items c.args.state.now) (λ ranks. IsTrue (is_among ranks.items rank))
    (λ ranks most. is_among_them cluster rank ranks.items ended (most image cluster is)) c.stuck.ensures.most
