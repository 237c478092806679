use Rattle.std.proofs.Common.{length, refl, subst, sym}
use Rattle.std.specs.Prelude.{IfSome}
use Rattle.std.proofs.lemmas.Option.{slice_get_read}
use Rattle.cl_explore.specs.How.{how_in}
use Rattle.cl_explore.specs.Listening.{IsNeedNode}
use Rattle.cl_explore.proofs.Hears.{told_of, visited}
use Rattle.cl_explore.proofs.seeking.seek_at.Goals as goal

pub returns-in-None-clause-of : goal.returns-in-None-clause-of
returns-in-None-clause-of g c =
    let course = c.args.course.now in
    (visited (how_in course) course.image.now course.order.now c.args.search.now c.visit.new.self c.args.node c.requires.of
    c.requires.inside c.in_ok-_visit-in-None._visit c.in_ok-_visit-in-None.ensures.visits).0

pub need-requires-clause-need : goal.need-requires-clause-need
need-requires-clause-need g c =
    let course = c.args.course.now in
    let kept = c.args.search.now.nodes in
    let at = slice_get_read kept.items (length kept.items) c.args.node c.index.result.now refl c.requires.inside
    c.index.ensures in
    let told = told_of (λ ranks. ranks.items) (how_in course) course.image.now course.order.now c.args.search.now c.args.node
    c.requires.of c.requires.inside c.index.result.now at c.in_ok-live.live c.in_ok-live.ensures c.requires.image
    c.in_ok-needing_in.field-0 c.in_ok-needing_in.ensures.waits c.in_ok-needing_in.ensures.need in
    subst (λ ks. IsNeedNode course.image.now course.order.now ks c.args.node c.as_slice-them.result.now)
    (sym c.as_slice-nodes.ensures.value)
    (subst (λ rs. IsNeedNode course.image.now course.order.now kept.items c.args.node rs) (sym c.as_slice-them.ensures.value)
    (subst (λ o. IfSome o (λ ranks. IsNeedNode course.image.now course.order.now kept.items c.args.node ranks.items))
    c.in-Some.is told))
