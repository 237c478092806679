use Rattle.cl_rank.specs.Views.{view_of}
use Rattle.test_cluster.proofs.Turning.{idles, on_ok}
use Rattle.test_cluster.proofs.rank.a_stopped_hart_idles.Goals as goal

pub returns-clause-recorded : goal.returns-clause-recorded
returns-clause-recorded c =
    on_ok c.turn_plain.result
    (λ turn. (idles c.args.seat.now.hart (view_of c.args.seat.now.rank) (view_of c.turn_plain.new.self) c.args.seat.now.hub
    c.turn_plain.new.hub turn c.requires.idles).0) c.turn_plain.ensures.turned

pub returns-clause-hub : goal.returns-clause-hub
returns-clause-hub c =
    on_ok c.turn_plain.result
    (λ turn. (idles c.args.seat.now.hart (view_of c.args.seat.now.rank) (view_of c.turn_plain.new.self) c.args.seat.now.hub
    c.turn_plain.new.hub turn c.requires.idles).1) c.turn_plain.ensures.turned
