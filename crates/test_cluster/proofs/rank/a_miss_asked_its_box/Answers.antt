use Rattle.cl_rank.specs.Views.{view_of}
use Rattle.test_cluster.proofs.Boxing.{looks_in_vain}
use Rattle.test_cluster.proofs.Turning.{on_ok}
use Rattle.test_cluster.proofs.rank.a_miss_asked_its_box.Goals as goal

pub returns : goal.returns
returns c =
    on_ok c.turn_plain.result
    (looks_in_vain c.args.seat.now.hart (view_of c.args.seat.now.rank) (view_of c.turn_plain.new.self) c.args.seat.now.hub
    c.turn_plain.new.hub) c.turn_plain.ensures.turned
