use Rattle.std.proofs.Common.{ap}
use Rattle.cl_rank.specs.Views.{place_in, view_of}
use Rattle.test_cluster.proofs.Boxing.{keeps_keys}
use Rattle.test_cluster.proofs.Turning.{on_ok}
use Rattle.test_cluster.proofs.rank.a_turn_without_a_box_keeps_the_keys.Goals as goal

pub returns : goal.returns
returns c =
    on_ok c.turn_plain.result
    (λ turn none. keeps_keys c.args.seat.now.hart (view_of c.args.seat.now.rank) (view_of c.turn_plain.new.self) c.args.seat.now.hub
    c.turn_plain.new.hub turn (ap place_in none)) c.turn_plain.ensures.turned
