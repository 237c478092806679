use Rattle.std.proofs.Common.{◌∙◌}
use Rattle.std.proofs.lemmas.Option.{slice_get_read}
use Rattle.cl_moves.proofs.Asking.{if_ok_on}
use Rattle.cl_explore.proofs.search.Search.keep.Goals as goal

pub returns : goal.returns
returns c =
    let nodes = c.args.self.now.nodes in
    let earlier = c.index-earlier.result.now in
    let there = slice_get_read nodes.items c.len.result c.args.parent earlier (c.len.ensures ∙ nodes.ok.0)
    c.if-parent-len.false c.index-earlier.ensures in
    if_ok_on c.keep_moved.result (λ kept keeps since. keeps (since earlier there)) c.keep_moved.ensures
