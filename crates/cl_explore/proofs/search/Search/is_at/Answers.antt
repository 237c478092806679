use Rattle.std.proofs.Common.{subst, ◌∙◌}
use Rattle.std.proofs.lemmas.Option.{slice_get_read}
use Rattle.cl_moves.proofs.Asking.{if_ok_on}
use Rattle.cl_explore.specs.Kept.{AreSamePlaces}
use Rattle.cl_explore.proofs.search.Search.is_at.Goals as goal

pub returns : goal.returns
returns c =
    let nodes = c.args.self.now.nodes in
    let kept = c.index-kept.result.now in
    let here = slice_get_read nodes.items c.len.result c.args.node kept (c.len.ensures ∙ nodes.ok.0) c.if-node-len.false
    c.index-kept.ensures in
    let places = subst (λ other. AreSamePlaces c.args.course.now.order.now c.args.standing.now other)
    c.as_slice.ensures.value (c.are_same_places.ensures c.if-not-are_same_places.false) in
    if_ok_on c.is_alike.result
    (λ at alike its. (
      kept,
      here,
      alike its c.args.course.now.patterns.now.may_wait c.args.course.now.patterns.now.kept.items c.args.course.now.order.now,
      places,
    )) c.is_alike.ensures
