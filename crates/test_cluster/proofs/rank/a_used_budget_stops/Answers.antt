use Rattle.std.proofs.Common.{sym}
use Rattle.cl_state.specs.Room.{rank_of}
use Rattle.cl_rank.specs.Turning.{Answered}
use Rattle.test_cluster.proofs.Turning.{used_budget}
use Rattle.test_cluster.proofs.rank.a_used_budget_stops.Goals as goal

pub returns : goal.returns
returns c =
    used_budget Answered c.args.seat.now.hart (rank_of c.args.seat.now.rank.state) _ _ _ _ _ c.turn_plain.result c.requires.runs
    (sym c.requires.used) c.turn_plain.ensures.active c.turn_plain.ensures.stop
