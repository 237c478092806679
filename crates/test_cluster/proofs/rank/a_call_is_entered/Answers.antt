use Rattle.cl_rank.specs.Views.{view_of}
use Rattle.test_cluster.proofs.Turning.{enters, on_ok}
use Rattle.test_cluster.proofs.rank.a_call_is_entered.Goals as goal

pub returns : goal.returns
returns c = λ request asks.
    on_ok c.turn_plain.result
    (λ turn. enters c.args.seat.now.hart (view_of c.args.seat.now.rank) (view_of c.turn_plain.new.self) c.args.seat.now.hub
    c.turn_plain.new.hub turn request asks) c.turn_plain.ensures.turned
