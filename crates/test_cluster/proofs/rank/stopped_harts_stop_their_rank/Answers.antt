use Rattle.cl_state.specs.Room.{rank_of}
use Rattle.cl_rank.specs.Turning.{Answered}
use Rattle.test_cluster.proofs.Turning.{all_stopped}
use Rattle.test_cluster.proofs.rank.stopped_harts_stop_their_rank.Goals as goal

pub returns : goal.returns
returns c =
    all_stopped Answered c.args.seat.now.hart (rank_of c.args.seat.now.rank.state) _ _ _ _ _
    c.turn_plain.result c.requires.stopped c.turn_plain.ensures.active
    c.turn_plain.ensures.stop
