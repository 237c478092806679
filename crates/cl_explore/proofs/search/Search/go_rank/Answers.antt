use Rattle.std.proofs.Common.{◌≡◌, Some, arith, slice_get, subst, sym, ◌∙◌}
use Rattle.std.proofs.lemmas.Option.{same_Some, slice_get_read, slice_get_within}
use Rattle.cl_deeds.specs.Orders.{in_slot}
use Rattle.cl_state.specs.Room.{rank_of}
use Rattle.cl_state.specs.declared.state.RankState.{RankState}
use Rattle.cl_order_laws.specs.Closed.{IsDone}
use Rattle.cl_explore.proofs.Tries.{closed_by, closed_done, closed_none}
use Rattle.cl_explore.specs.How.{how_in}
use Rattle.cl_explore.proofs.search.Search.go_rank.Goals as goal

pub returns-then-place-len-clause-closes : goal.returns-then-place-len-clause-closes
returns-then-place-len-clause-closes c =
    let ranks = c.args.live.now.cluster.ranks in
    closed_done (how_in c.args.course.now) c.args.course.now.order.now c.args.self.now c.args.node c.args.live.now c.args.rank
    (λ own at.
    let inside = slice_get_within ranks.items c.args.rank own at in
    absurd (omega (arith, inside, c.if-place-len.true, c.from-place.ensures, c.len.ensures, ranks.ok.0)))

pub returns-then-is_done-clause-closes : goal.returns-then-is_done-clause-closes
returns-then-is_done-clause-closes c =
    let order = c.args.course.now.order.now in
    let ranks = c.args.live.now.cluster.ranks in
    let own = c.index-own.result.now in
    let here = slice_get_read ranks.items c.len.result c.from-place.result own (c.len.ensures ∙ ranks.ok.0)
    c.if-place-len.false c.index-own.ensures in
    let there = subst (λ r. slice_get ranks.items r ≡ Some own) c.from-place.ensures here in
    closed_done (how_in c.args.course.now) order c.args.self.now c.args.node c.args.live.now c.args.rank
    (λ other at. subst (λ (o : RankState). IsDone (in_slot order) (rank_of o)) (same_Some own other (sym there ∙ at))
    (c.is_done.ensures.0 c.if-is_done.true))

pub returns-in_default-clause-closes : goal.returns-in_default-clause-closes
returns-in_default-clause-closes c =
    closed_none (how_in c.args.course.now) c.args.course.now.order.now c.args.self.now c.args.node c.args.live.now c.args.rank
    c.in_default.ensures

pub returns-clause-closes : goal.returns-clause-closes
returns-clause-closes c =
    closed_by (how_in c.args.course.now) c.args.course.now.order.now c.args.self.now c.go_each.new.self c.args.node
    c.args.live.now c.go_each.new.live c.args.rank c.in-Some.hart c.in_ok-turns.turns.items c.in-Some.ensures
    c.in_ok-turns.ensures.all c.in_ok-turns.ensures.own c.in_ok-long.ensures.each
