use Rattle.std.proofs.Common.{◌∙◌}
use Rattle.std.proofs.lemmas.Option.{slice_get_read}
use Rattle.cl_explore.specs.How.{how_in}
use Rattle.cl_explore.proofs.Dives.{dives}
use Rattle.cl_explore.proofs.search.Search.dive.Goals as goal

pub returns : goal.returns
returns c =
    let old = c.args.self.now.nodes in
    let at = slice_get_read old.items c.len.result c.args.from c.index-kept.result.now (c.len.ensures ∙ old.ok.0)
    c.if-from-len.false c.index-kept.ensures in
    dives (how_in c.args.course.now) c.args.course.now.order.now c.args.self.now c.add.new.self c.args.from c.in_ok-number.number
    c.index-kept.result.now c.in_ok-live.live c.follow_one.new.live at c.in_ok-live.ensures
    (c.in_ok-follow_one.ensures c.if-not-branch.false) c.in_ok-number.ensures.adds c.in_ok-number.ensures.leads
