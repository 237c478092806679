use Rattle.cl_state.specs.Room.{rank_of}
use Rattle.cl_rank.specs.Turning.{Answered}
use Rattle.test_cluster.proofs.Turning.{full_clock}
use Rattle.test_cluster.proofs.rank.a_full_clock_stops.Goals as goal

pub returns : goal.returns
returns c =
    full_clock Answered c.args.seat.now.hart (rank_of c.args.seat.now.rank.state) _ _ _ _ _
    c.turn_plain.result c.requires.runs c.requires.left c.requires.full
    c.turn_plain.ensures.active c.turn_plain.ensures.stop
