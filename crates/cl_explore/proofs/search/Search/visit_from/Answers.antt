use Rattle.std.proofs.Common.{arith}
use Rattle.cl_explore.proofs.Tries.{none_closed, one_closed, visited}
use Rattle.cl_explore.specs.How.{how_in}
use Rattle.cl_explore.proofs.search.Search.visit_from.Goals as goal

pub loop-rank-init : goal.loop-rank-init
loop-rank-init c = none_closed (how_in c.args.course.now) c.args.course.now.order.now c.args.self.now c.args.node c.args.live.now

pub loop-rank-preserved : goal.loop-rank-preserved
loop-rank-preserved c =
    one_closed (how_in c.args.course.now) c.args.course.now.order.now c.args.self.now c.loop-rank.self
    c.go_rank.new.self c.args.node c.args.live.now c.loop-rank.live c.go_rank.new.live c.loop-rank.rank
    c.loop-rank.invariant c.in_ok-alone.ensures.closes

pub returns-clause-visits : goal.returns-clause-visits
returns-clause-visits c = λ kept here is_live.
    visited (how_in c.args.course.now) c.args.course.now.order.now c.args.self.now c.loop-rank.self
    c.args.node kept here c.args.live.now c.loop-rank.live is_live c.loop-rank.rank _
    (omega (arith, c.loop-rank-test.false, c.min-count.ensures, c.len.ensures)) c.in_ok-end.ensures c.in_ok-stuck.ensures
    c.in_ok-need.ensures.need c.resting_in.ensures c.in_ok-check_fit.ensures.fit c.loop-rank.invariant
