use Rattle.cl_machine.specs.Cluster.{loaded_cluster}
use Rattle.cl_replay.specs.Replaying.{IsReached}
use Rattle.cl_replay.specs.States.{ClusterStandsFor}
use Rattle.test_cluster.proofs.Merging.{ok_map}
use Rattle.test_cluster.proofs.Replaying.{reached_none}
use Rattle.test_cluster.proofs.replay.no_steps_leave_the_loaded_cluster.Goals as goal

pub returns : goal.returns
returns c =
    let image = c.args.image.now in
    let steps = c.args.steps.now in
    ok_map (IsReached image steps 0) (λ state. ClusterStandsFor image state (loaded_cluster image)) (reached_none image steps)
    c.replay.result c.replay.ensures.reached
