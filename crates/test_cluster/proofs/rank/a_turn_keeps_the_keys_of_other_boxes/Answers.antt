use Rattle.cl_rank.specs.Views.{view_of}
use Rattle.test_cluster.proofs.Boxing.{keeps_others}
use Rattle.test_cluster.proofs.Turning.{on_ok}
use Rattle.test_cluster.proofs.rank.a_turn_keeps_the_keys_of_other_boxes.Goals as goal

pub returns : goal.returns
returns c =
    on_ok c.turn_plain.result
    (keeps_others c.args.seat.now.hart (view_of c.args.seat.now.rank) (view_of c.turn_plain.new.self) c.args.seat.now.hub
    c.turn_plain.new.hub) c.turn_plain.ensures.turned
