use Rattle.std.specs.Prelude.{◌≡◌, false}
use Rattle.std.proofs.Common.{arith, ap, refl, subst, sym, ◌∙◌}
use Rattle.rv_image_types.specs.declared.images.ImageParts.{ImageParts}
use Rattle.cl_lines.proofs.Behind.{told_behind}
use Rattle.cl_contests.specs.Going.{TellsStart}
use Rattle.cl_contests.specs.Kept.{search_of}
use Rattle.cl_contests.specs.declared.patterns.Patterns.{Patterns}
use Rattle.cl_explore.specs.Ends.{findings}
use Rattle.cl_explore.specs.How.{by_contest}
use Rattle.cl_explore.proofs.Finds.{explored_behind, if_some_on, may_begin}
use Rattle.cl_explore.proofs.Hears.{came_behind}
use Rattle.cl_explore.proofs.Needing.{note_on, noted_then, whole_then}
use Rattle.cl_explore.specs.Needing.{AreSought}
use Rattle.cl_explore.proofs.exploring.search_by_patterns.Goals.{else-is_empty, then-is_empty+else-not-patterns}
use Rattle.cl_explore.proofs.exploring.search_by_patterns.Goals as goal

pub returns-in_err-found-clause-progress : goal.returns-in_err-found-clause-progress
returns-in_err-found-clause-progress g c = told_behind c.args.course.now.progress _ _ _ c.loop-try.invariant.0 c.search.ensures.progress

pub returns-then-is_wanted-clause-progress : goal.returns-then-is_wanted-clause-progress
returns-then-is_wanted-clause-progress g c = told_behind c.args.course.now.progress _ _ _ c.loop-try.invariant.0 c.search.ensures.progress

pub returns-then-not-patterns-clause-progress : goal.returns-then-not-patterns-clause-progress
returns-then-not-patterns-clause-progress g c = told_behind c.args.course.now.progress _ _ _ c.loop-try.invariant.0 c.search.ensures.progress

pub returns-in_err-tell_first_needs-clause-progress : goal.returns-in_err-tell_first_needs-clause-progress
returns-in_err-tell_first_needs-clause-progress g c =
    told_behind c.args.course.now.progress _ _ _ c.loop-try.invariant.0 c.search.ensures.progress

pub returns-in_err-add_all-clause-progress : goal.returns-in_err-add_all-clause-progress
returns-in_err-add_all-clause-progress g c = told_behind c.args.course.now.progress _ _ _ c.loop-try.invariant.0 c.search.ensures.progress

pub loop-try-preserved : goal.loop-try-preserved
loop-try-preserved g c =
    let image = c.args.image.now in
    let order = c.args.course.now.order.now in
    let buffered = c.args.course.now.buffered in
    let may_wait = c.add_waits.new.patterns.may_wait in
    let same = ap (λ (p : ImageParts). p.harts) c.parts.ensures.parts in
    let one : image.harts ≡ 1 = omega (arith, c.if-parts-ne1.false, same) in
    let before = g.L.Listener.told_need c.loop-try.listener image order in
    let told = g.L.Listener.told_need c.search.new.listener image order in
    let last = g.L.Listener.told_need c.tell_first_needs.new.listener image order in (
      told_behind c.args.course.now.progress _ _ _ c.loop-try.invariant.0 c.search.ensures.progress,
      c.tell_first_needs.ensures.holds,
      λ buffers. c.in_ok-add_all.ensures.still ∙ elim c.if-is_empty.branch [
        | then-is_empty+else-not-patterns w ↦ subst (λ (p : Patterns). p.may_wait ≡ false) (sym w.patterns-is) refl
        | else-is_empty w ↦ subst (λ (p : Patterns). p.may_wait ≡ false) (sym w.patterns-is)
            (c.in_ok-add_waits.ensures.still ∙ c.loop-try.invariant.2 buffers)
      ],
      note_on (AreSought buffered image × told) (AreSought buffered image × last) c.args.known.now c.search.new.known
          (λ v. (v.0, c.tell_first_needs.ensures.still v.1))
          (noted_then buffered may_wait image before told c.args.known.now c.loop-try.known c.search.new.known one
          (λ buffers. c.in_ok-add_waits.ensures.still ∙ c.loop-try.invariant.2 buffers) c.search.ensures.still
          c.loop-try.invariant.3 c.search.ensures.known),
    )

pub returns-then-is_wanted-clause-ends : goal.returns-then-is_wanted-clause-ends
returns-then-is_wanted-clause-ends g c =
    let kept = c.add_waits.new.patterns.kept.items in
    let may_wait = c.add_waits.new.patterns.may_wait in
    let image = c.args.image.now in
    let order = c.args.course.now.order.now in
    let turns = c.args.turns.now in
    let standing = c.in_ok-standing.standing in
    let led = c.in_ok-standing.ensures.led in
    let same = ap (λ (p : ImageParts). p.harts) c.parts.ensures.parts in
    if_some_on c.in_ok-found.found
    (λ found from. explored_behind (by_contest (search_of may_wait kept)) image order turns standing (findings found) led
    (may_begin may_wait kept image order turns standing led (c.is_first_hart.ensures c.if-not-is_first_hart.false)
    (omega (arith, c.if-parts-ne1.false, same))
    c.in_ok-add_waits.ensures.waits (subst (TellsStart standing) c.if-not-may_start.false c.may_start.ensures)) from) c.in_ok-found.ensures.ends

pub returns-then-is_wanted-clause-buffers : goal.returns-then-is_wanted-clause-buffers
returns-then-is_wanted-clause-buffers g c =
    if_some_on c.in_ok-found.found
    (λ found same buffers. same ∙ (c.in_ok-add_waits.ensures.still ∙ c.loop-try.invariant.2 buffers)) c.in_ok-found.ensures.waits

pub search-requires-clause-came : goal.search-requires-clause-came
search-requires-clause-came g c =
    came_behind c.args.image.now c.args.course.now.order.now c.args.turns.now c.in_ok-standing.standing
    c.in_ok-standing.ensures.led

pub search-requires-clause-image : goal.search-requires-clause-image
search-requires-clause-image g c = λ waits.
    let same = ap (λ (p : ImageParts). p.harts) c.parts.ensures.parts in
    (c.parts.ensures.limits, omega (arith, c.if-parts-ne1.false, same))

pub returns-then-is_wanted-clause-most : goal.returns-then-is_wanted-clause-most
returns-then-is_wanted-clause-most g c = c.in_ok-found.ensures.most

pub returns-then-is_wanted-clause-whole : goal.returns-then-is_wanted-clause-whole
returns-then-is_wanted-clause-whole g c =
    let same = ap (λ (p : ImageParts). p.harts) c.parts.ensures.parts in
    let one : c.args.image.now.harts ≡ 1 = omega (arith, c.if-parts-ne1.false, same) in
    whole_then c.args.course.now.buffered c.add_waits.new.patterns.may_wait c.args.image.now c.in_ok-found.found one
    (λ buffers. c.in_ok-add_waits.ensures.still ∙ c.loop-try.invariant.2 buffers)
    (c.is_wanted.ensures c.if-is_wanted.true) c.in_ok-found.ensures.waits

pub returns-then-is_wanted-clause-known : goal.returns-then-is_wanted-clause-known
returns-then-is_wanted-clause-known g c =
    let image = c.args.image.now in
    let order = c.args.course.now.order.now in
    let same = ap (λ (p : ImageParts). p.harts) c.parts.ensures.parts in
    let one : image.harts ≡ 1 = omega (arith, c.if-parts-ne1.false, same) in
    noted_then c.args.course.now.buffered c.add_waits.new.patterns.may_wait image
    (g.L.Listener.told_need c.loop-try.listener image order) (g.L.Listener.told_need c.search.new.listener image order)
    c.args.known.now c.loop-try.known c.search.new.known one
    (λ buffers. c.in_ok-add_waits.ensures.still ∙ c.loop-try.invariant.2 buffers) c.search.ensures.still
    c.loop-try.invariant.3 c.search.ensures.known

pub returns-then-not-patterns-clause-known : goal.returns-then-not-patterns-clause-known
returns-then-not-patterns-clause-known g c =
    let image = c.args.image.now in
    let order = c.args.course.now.order.now in
    let buffered = c.args.course.now.buffered in
    let same = ap (λ (p : ImageParts). p.harts) c.parts.ensures.parts in
    let one : image.harts ≡ 1 = omega (arith, c.if-parts-ne1.false, same) in
    let told = g.L.Listener.told_need c.search.new.listener image order in
    let last = g.L.Listener.told_need c.tell_first_needs.new.listener image order in
    note_on (AreSought buffered image × told) (AreSought buffered image × last) c.args.known.now c.search.new.known
    (λ v. (v.0, c.tell_first_needs.ensures.still v.1))
    (noted_then buffered c.add_waits.new.patterns.may_wait image
    (g.L.Listener.told_need c.loop-try.listener image order) told c.args.known.now c.loop-try.known c.search.new.known one
    (λ buffers. c.in_ok-add_waits.ensures.still ∙ c.loop-try.invariant.2 buffers) c.search.ensures.still
    c.loop-try.invariant.3 c.search.ensures.known)
