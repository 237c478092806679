use Rattle.std.proofs.Common.{arith, length, refl}
use Rattle.std.proofs.lemmas.Option.{slice_get_read, slice_get_within}
use Rattle.cl_explore.proofs.Finds.{all_back, is_earlier, none_back, one_back, turned_way}
use Rattle.cl_explore.proofs.stepping.steps_to.Goals as goal

pub rest-init : goal.rest-init
rest-init c = none_back c.args.nodes.now c.args.node c.new-back.result.items c.new-back.ensures.items

pub returns-then-at-nodes : goal.returns-then-at-nodes
returns-then-at-nodes c = λ image order nodes here are last.
    let kept = c.args.nodes.now in
    let v = c.rest.invariant image order nodes here are last in
    let inside = slice_get_within nodes c.rest.at v.0 v.1 in
    absurd (omega (arith, inside, are.many, c.if-at-nodes.true))

pub returns-then-at-eq0 : goal.returns-then-at-eq0
returns-then-at-eq0 c = λ image order nodes here are last.
    let kept = c.args.nodes.now in
    let there = slice_get_read kept (length kept) c.rest.at c.index-nodes-at.result refl
    c.if-at-nodes.false c.index-nodes-at.is in
    turned_way image order here c.turned.result (λ steps. steps.items) c.go_back.new.back.items c.turned.ensures
    (all_back kept c.args.node c.rest.at c.index-nodes-at.result c.rest.back.items c.go_back.new.back.items there
    c.in_ok-go_back.ensures c.if-at-eq0.true c.rest.invariant image order nodes here are last)

pub returns-then-kept-at : goal.returns-then-kept-at
returns-then-kept-at c = λ image order nodes here are last.
    let kept = c.args.nodes.now in
    let there = slice_get_read kept (length kept) c.rest.at c.index-nodes-at.result refl
    c.if-at-nodes.false c.index-nodes-at.is in
    let less = is_earlier kept c.args.node c.rest.at c.index-nodes-at.result c.rest.back.items there
    c.if-at-eq0.false c.rest.invariant image order nodes here are last in
    absurd (omega (arith, less, c.if-kept-at.true))

pub rest-preserved : goal.rest-preserved
rest-preserved c =
    let kept = c.args.nodes.now in
    let there = slice_get_read kept (length kept) c.rest.at c.index-nodes-at.result refl
    c.if-at-nodes.false c.index-nodes-at.is in
    one_back kept c.args.node c.rest.at c.index-nodes-at.result c.rest.back.items c.go_back.new.back.items there
    c.in_ok-go_back.ensures c.if-at-eq0.false c.rest.invariant
