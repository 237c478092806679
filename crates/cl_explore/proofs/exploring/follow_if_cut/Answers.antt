use Rattle.std.proofs.Common.{arith, subst, sym}
use Rattle.cl_explore.specs.Ends.{IsBounded, StillExplores}
use Rattle.cl_explore.specs.How.{how_in, waits_in}
use Rattle.cl_explore.specs.Listening.{IsEndNode}
use Rattle.cl_explore.specs.Visiting.{findings_of}
use Rattle.cl_explore.proofs.Dives.{longer_by, same_explores, still_bounded, still_explores, told}
use Rattle.cl_explore.proofs.Hears.{dived}
use Rattle.cl_explore.proofs.exploring.follow_if_cut.Goals as goal

pub returns-in_default-2-clause-ends : goal.returns-in_default-2-clause-ends
returns-in_default-2-clause-ends g c =
    same_explores (how_in c.args.course.now) c.args.course.now.order.now c.args.search.now c.dive.new.self c.in-Some.from
    c.args.told.noted.ends.items c.args.told.noted.companies.items c.args.told.left _ _
    (rw c.in_default-2.is at c.in_ok-end.ensures)

pub returns-in_default-2-clause-most : goal.returns-in_default-2-clause-most
returns-in_default-2-clause-most g c =
    let none = (rw c.in_default-2.is at c.in_ok-end.ensures) in
    subst (λ ks. IsBounded c.args.bounds.states c.args.bounds.enough c.args.course.now.most c.args.search.now.nodes.items
    c.args.told.left → IsBounded c.args.bounds.states c.args.bounds.enough c.args.course.now.most ks c.args.told.left)
    (sym none.0) (λ is. is)

pub returns-clause-ends : goal.returns-clause-ends
returns-clause-ends g c =
    let old = c.args.search.now in
    let new = c.dive.new.self in
    let found = (rw c.in-Some-2.is at c.in_ok-end.ensures) in
    let long = longer_by (how_in c.args.course.now) c.args.course.now.order.now old new c.in-Some.from c.in-Some-2.end found in
    let how = how_in c.args.course.now in
    subst (λ ends. StillExplores how c.args.course.now.order.now (findings_of how old c.args.told)
    (told new.nodes.items ends c.args.told.noted.companies.items new.leads.items c.saturating_sub.result (waits_in how)
    c.args.told.noted.resting.items))
    (sym c.in_ok-push.ensures.items)
    (still_explores how c.args.course.now.order.now old new c.in-Some.from c.in-Some-2.end
    c.args.told.noted.ends.items c.args.told.noted.companies.items c.args.told.left c.saturating_sub.result _ _ found
    (omega (arith, c.in-Some.ensures, c.len.ensures, old.nodes.ok.0))
    (λ none. omega (arith, none, c.if-told-eq0.false))
    (omega (arith, c.saturating_sub.ensures, c.len-2.ensures, new.nodes.ok.0, long, c.in-Some.ensures, c.len.ensures, old.nodes.ok.0)))

pub returns-clause-most : goal.returns-clause-most
returns-clause-most g c = λ bounded.
    let old = c.args.search.now in
    let new = c.dive.new.self in
    let found = (rw c.in-Some-2.is at c.in_ok-end.ensures) in
    let long = longer_by (how_in c.args.course.now) c.args.course.now.order.now old new c.in-Some.from c.in-Some-2.end found in
    still_bounded c.args.bounds.states c.args.bounds.enough c.args.course.now.most old.nodes.items new.nodes.items (found.0).0
    c.args.told.left c.saturating_sub.result (found.0).1
    (λ none. omega (arith, none, c.if-told-eq0.false))
    (omega (arith, c.saturating_sub.ensures, c.len-2.ensures, new.nodes.ok.0, long, c.in-Some.ensures, c.len.ensures, old.nodes.ok.0))
    bounded

pub tell_end-requires-clause-end : goal.tell_end-requires-clause-end
tell_end-requires-clause-end g c = λ is.
    let old = c.args.search.now in
    let course = c.args.course.now in
    subst (λ ks. IsEndNode course.image.now course.order.now ks c.in-Some-2.end) (sym c.as_slice.ensures.value)
    (dived (how_in course) course.image.now course.order.now old c.dive.new.self c.in-Some.from c.requires.of
    (omega (arith, c.if-told-eq0.false, c.in-Some.ensures, c.len.ensures, old.nodes.ok.0)) c.in-Some-2.end
    (rw c.in-Some-2.is at c.in_ok-end.ensures))
