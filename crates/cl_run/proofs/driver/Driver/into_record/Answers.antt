use Rattle.std.proofs.Common.{◌≡◌, ◌<◌, ◌∙◌, ◌++◌, ◌∷◌, [], arith, length, subst, sym}
use Rattle.cl_record.proofs.Elements.{all_yielded}
use Rattle.cl_record.proofs.Sides.{fewer, seam_more}
use Rattle.cl_run.specs.Driver.{AreDone}
use Rattle.cl_run.proofs.Left.{as_many, done_more, may_settle}
use Rattle.cl_run.proofs.driver.Driver.into_record.Goals as goal

pub add-requires : goal.add-requires
add-requires c =
    let l = c.loop-seat in
    let seats = c.args.self.seats.items in
    let left = l.invariant.left in
    let below : length l.yielded < length seats =
    fewer l.yielded _ seats c.in-Some.seat _ l.invariant.rest c.in-Some.ensures.steps.0 in
    let many : length left.0 ≡ length l.yielded = as_many l.yielded left.0 left.1 in (
      length seats,
      length c.args.self.hub.links,
      left.0,
      omega (arith, below, many),
      left.2,
    )

pub loop-seat-preserved : goal.loop-seat-preserved
loop-seat-preserved c =
    let l = c.loop-seat in
    let seats = c.args.self.seats.items in
    let left = l.invariant.left in
    record {
      rest = seam_more l.yielded _ seats c.in-Some.seat _ l.invariant.rest c.in-Some.ensures.steps.0;
      left = (
        left.0 ++ c.close.result ∷ [],
        done_more l.yielded left.0 c.in-Some.seat c.close.result left.1 (sym c.close.ensures.rank) (sym c.close.ensures.stop),
        c.add.ensures (length seats) (length c.args.self.hub.links) left.0 left.2,
      );
    }

pub close-requires-2 : goal.close-requires-2
close-requires-2 c =
    let l = c.loop-seat in
    let rest = l.seat-iterator.rest in
    let seats = c.args.self.seats.items in
    let left = l.invariant.left in
    let all_is = all_yielded l.yielded rest.items seats l.invariant.rest (sym rest.ok.0 ∙ c.in-None.ensures.steps.0) in (
      length seats,
      left.0,
      left.2,
      may_settle c.args.self c.requires.joined left.0 (subst (λ xs. AreDone xs left.0) all_is left.1),
    )

pub returns : goal.returns
returns c =
    let l = c.loop-seat in
    let rest = l.seat-iterator.rest in
    let seats = c.args.self.seats.items in
    let left = l.invariant.left in
    let all_is = all_yielded l.yielded rest.items seats l.invariant.rest (sym rest.ok.0 ∙ c.in-None.ensures.steps.0) in
    record {
      all = left.0;
      done = subst (λ xs. AreDone xs left.0) all_is left.1;
      record_is = c.close-2.ensures (length seats) left.0 left.2;
    }
