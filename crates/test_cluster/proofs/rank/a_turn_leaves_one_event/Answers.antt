use Rattle.cl_rank.specs.Views.{view_of}
use Rattle.test_cluster.proofs.Turning.{leaves_one, on_ok}
use Rattle.test_cluster.proofs.rank.a_turn_leaves_one_event.Goals as goal

pub returns : goal.returns
returns c =
    on_ok c.turn_plain.result
    (leaves_one c.args.seat.now.hart (view_of c.args.seat.now.rank) (view_of c.turn_plain.new.self) c.args.seat.now.hub
    c.turn_plain.new.hub) c.turn_plain.ensures.turned
