use Rattle.std.proofs.Common.{◌≡◌, ◌-◌, arith, inl, inr, subst, sym, length, ◌<◌, refl}
use Rattle.std.specs.Prelude.{IfSome}
use Rattle.std.proofs.lemmas.Bool.{cases_lt}
use Rattle.cl_explore.specs.Covering.{HasRoomAt}
use Rattle.cl_explore.specs.Ends.{AreEnough, HasLonger}
use Rattle.cl_explore.proofs.Finds.{more_from, none_from, tells_from}
use Rattle.cl_explore.proofs.exploring.visit_each.Goals as goal
use Rattle.cl_explore.specs.How.{how_in}
use Rattle.cl_explore.specs.Listening.{IsEndNode, IsNeedNode}
use Rattle.cl_explore.proofs.OneEach.{first_way}
use Rattle.cl_explore.proofs.Hears.{needed, visited}
use Rattle.cl_lines.proofs.Behind.{nothing_told, told_behind}
use Rattle.cl_explore.proofs.exploring.visit_each.Goals.{then-rest-test+then-goes_on+else-not-is_deep, then-rest-test+else-goes_on, else-rest-test}

pub rest-init : goal.rest-init
rest-init g c = (
  λ standing begun.
      none_from (how_in c.args.course.now) c.args.course.now.order.now standing c.args.search.now
      c.new.result.items c.new-2.result.items c.new-3.result.items begun c.new.ensures.items c.new-2.ensures.items
      c.new-3.ensures.items,
  omega (arith),
  nothing_told c.args.course.now.progress _,
  c.requires.of,
  c.requires.holds,
  λ is. is,
)

pub rest-preserved : goal.rest-preserved
rest-preserved g c =
    let old = c.rest.search.nodes in
    let inside : c.rest.done < length old.items = omega (arith, c.goes_on.ensures.more c.if-goes_on.true, c.len.ensures, old.ok.0) in
    let room = subst (λ ks. HasRoomAt (how_in c.args.course.now) ks c.rest.done) c.as_slice-in-rest.ensures.value
    (c.has_room_at.ensures.room c.if-not-has_room_at.false c.args.course.now.patterns.now.may_wait
    c.args.course.now.patterns.now.kept.items) in (
      λ standing begun.
          more_from (how_in c.args.course.now) c.args.course.now.order.now standing c.rest.search c.visit.new.self
          c.rest.noted.ends.items c.note_visit.new.noted.ends.items c.rest.noted.companies.items
          c.note_visit.new.noted.companies.items c.rest.noted.resting.items c.note_visit.new.noted.resting.items c.rest.done
          (c.rest.invariant.0 standing begun) inside room
          c.in_ok-visit.visit c.in_ok-visit.ensures.visits c.in_ok-note_visit.ensures.ends c.in_ok-note_visit.ensures.stuck
          c.in_ok-note_visit.ensures.resting c.in_ok-tell_need.ensures.none,
      omega (arith, c.rest-test.true),
      told_behind c.args.course.now.progress _ _ _ c.rest.invariant.2 c.tell_progress.ensures,
      (visited (how_in c.args.course.now) c.args.course.now.image.now c.args.course.now.order.now c.rest.search c.visit.new.self
          c.rest.done c.rest.invariant.3 inside c.in_ok-visit.visit c.in_ok-visit.ensures.visits).0,
      c.tell_need.ensures.holds,
      λ was. c.tell_need.ensures.still (c.tell_end.ensures.still (c.rest.invariant.5 was)),
    )

pub tell_end-requires-clause-end : goal.tell_end-requires-clause-end
tell_end-requires-clause-end g c = λ is.
    let course = c.args.course.now in
    let old = c.rest.search.nodes in
    let inside : c.rest.done < length old.items = omega (arith, c.goes_on.ensures.more c.if-goes_on.true, c.len.ensures, old.ok.0) in
    subst (λ ks. IsEndNode course.image.now course.order.now ks c.rest.done) (sym c.as_slice-in-rest-2.ensures.value)
    ((visited (how_in course) course.image.now course.order.now c.rest.search c.visit.new.self c.rest.done c.rest.invariant.3
    inside c.in_ok-visit.visit c.in_ok-visit.ensures.visits).1 is)

pub tell_need-requires-clause-need : goal.tell_need-requires-clause-need
tell_need-requires-clause-need g c =
    let course = c.args.course.now in
    let old = c.rest.search.nodes in
    let inside : c.rest.done < length old.items = omega (arith, c.goes_on.ensures.more c.if-goes_on.true, c.len.ensures, old.ok.0) in
    subst (λ ks. IfSome c.in_ok-visit.visit.need (λ ranks.
    IsNeedNode course.image.now course.order.now ks c.rest.done ranks.items))
    (sym c.as_slice-in-rest-3.ensures.value)
    (needed (how_in course) course.image.now course.order.now c.rest.search c.visit.new.self c.rest.done c.rest.invariant.3
    inside c.requires.image c.in_ok-visit.visit c.in_ok-visit.ensures.waits c.in_ok-visit.ensures.visits)

pub tell_need-requires-clause-waits : goal.tell_need-requires-clause-waits
tell_need-requires-clause-waits g c = c.in_ok-visit.ensures.waits

pub tell_need-requires-clause-way : goal.tell_need-requires-clause-way
tell_need-requires-clause-way g c = λ some.
    first_way c.args.course.now.way c.args.course.now.patterns.now.may_wait c.args.course.now.patterns.now.kept.items
    (c.in_ok-visit.ensures.waits some)

pub returns-clause-ends : goal.returns-clause-ends
returns-clause-ends g c = λ standing room begun.
    tells_from (how_in c.args.course.now) c.args.course.now.order.now standing c.rest.search _
    c.rest.done room (c.rest.invariant.0 standing begun) refl refl refl refl
    (omega (arith, c.saturating_sub-left.ensures, c.len-2.ensures, c.rest.search.nodes.ok.0))

pub returns-clause-most : goal.returns-clause-most
returns-clause-most g c =
    let old = c.rest.search.nodes in
    elim c.rest-test.branch [
      | then-rest-test+then-goes_on+else-not-is_deep w ↦
          inr (inr (inr (subst (HasLonger c.args.course.now.most) w.as_slice.ensures.value
          (w.is_deep.ensures w.if-not-is_deep.false))))
      | then-rest-test+else-goes_on w ↦ elim (w.goes_on.ensures.end w.if-goes_on.false) [
        | inl past ↦ inl (omega (arith, past, c.saturating_sub-left.ensures, w.len.ensures, c.len-2.ensures, old.ok.0))
        | inr enough ↦
            let same : w.len.result - c.rest.done ≡ c.saturating_sub-left.result =
            omega (arith, c.saturating_sub-left.ensures, w.len.ensures, c.len-2.ensures) in
            inr (inr (inl (subst (AreEnough c.args.bounds.enough) same enough)))
      ]
      | else-rest-test w ↦ elim (cases_lt (length old.items) c.rest.done) [
        | inl few ↦ inl (omega (arith, few, c.saturating_sub-left.ensures, c.len-2.ensures, old.ok.0))
        | inr some ↦ inr (inl
            (omega (
              arith,
              some,
              w.rest-test.false,
              c.rest.invariant.1,
              c.saturating_sub-left.ensures,
              c.len-2.ensures,
              old.ok.0,
            )))
      ]
    ]
