use Rattle.std.proofs.Common.{arith, ◌∙◌}
use Rattle.std.proofs.lemmas.Option.{slice_get_read}
use Rattle.cl_explore.proofs.Tries.{not_kept}
use Rattle.cl_explore.proofs.search.Search.visit.Goals as goal

pub returns-then-node-len-clause-visits : goal.returns-then-node-len-clause-visits
returns-then-node-len-clause-visits c = λ image nodes node found there.
    let kept = c.args.self.now.nodes in
    absurd (not_kept c.args.course.now.order.now kept.items c.args.node
    (omega (arith, c.if-node-len.true, c.len.ensures, kept.ok.0)) image nodes node found.are there)

pub returns-clause-visits : goal.returns-clause-visits
returns-clause-visits c =
    let kept = c.args.self.now.nodes in
    let here = slice_get_read kept.items c.len.result c.args.node c.index-kept.result.now
    (c.len.ensures ∙ kept.ok.0) c.if-node-len.false c.index-kept.ensures in
    c.visit_from.ensures.visits c.index-kept.result.now here c.in_ok-live.ensures
