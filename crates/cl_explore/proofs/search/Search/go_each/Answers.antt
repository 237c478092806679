use Rattle.std.proofs.Common.{arith}
use Rattle.cl_explore.proofs.Tries.{all_gone, none_gone, one_gone}
use Rattle.cl_explore.specs.How.{how_in}
use Rattle.cl_explore.proofs.search.Search.go_each.Goals as goal

pub rest-init : goal.rest-init
rest-init c = (
  λ i e at. at,
  none_gone (how_in c.args.course.now) c.args.course.now.order.now c.args.self.now c.args.node c.args.live.now c.args.turns.items,
)

pub rest-preserved : goal.rest-preserved
rest-preserved c =
    one_gone (how_in c.args.course.now) c.args.course.now.order.now c.args.self.now c.rest.self c.go.new.self
    c.args.node c.args.live.now c.rest.live c.go.new.live c.args.turns.items c.rest.turns.items c.pop.new.self.items
    c.in-Some.turn c.rest.invariant.0 c.in-Some.ensures.items c.rest.invariant.1 c.in_ok-more-in-Some.ensures.goes

pub returns-in-None-clause-each : goal.returns-in-None-clause-each
returns-in-None-clause-each c =
    all_gone (how_in c.args.course.now) c.args.course.now.order.now c.args.self.now c.rest.self c.args.node
    c.args.live.now c.rest.live c.args.turns.items c.rest.turns.items
    (omega (arith, c.in-None.ensures.cases.0, c.rest.turns.ok.0)) c.rest.invariant.1
