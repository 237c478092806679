use Rattle.std.proofs.Common.{◌∙◌, sym, ap, arith, Some, slice_get, slice_index_or, inl, inr}
use Rattle.std.proofs.lemmas.Bool.Decides.{eqb_tells}
use Rattle.std.proofs.lemmas.Option.{same_Some, slice_get-get_or}
use Rattle.cl_record.proofs.Sides.{none_of}
use Rattle.cl_record.proofs.settling.place_in.Goals as goal

pub loop-place-init : goal.loop-place-init
loop-place-init g c = λ k other below at. absurd (omega (arith, below))

pub returns-then-sides-place : goal.returns-then-sides-place
returns-then-sides-place g c =
    let sides = c.args.sides.now in
    let place = c.loop-place.place in
    let d = c.index-sides-place.result in
    let read = slice_get-get_or sides place d c.loop-place-test.true in
    record {
      side = (slice_index_or sides place d).1;
      there = read ∙ ap (λ n. Some (n, (slice_index_or sides place d).1)) c.if-sides-place.true;
      first = c.loop-place.invariant;
    }

pub loop-place-preserved : goal.loop-place-preserved
loop-place-preserved g c = λ k other below at.
    let sides = c.args.sides.now in
    let place = c.loop-place.place in
    let d = c.index-sides-place.result in
    let read = slice_get-get_or sides place d c.loop-place-test.true in
    elim (eqb_tells place k) [
      | inl here ↦ λ e.
          let is = same_Some _ other (sym read ∙ ap (slice_get sides) here.1 ∙ at) in
          c.if-sides-place.false (ap (λ x. x.0) is ∙ e)
      | inr away ↦ c.loop-place.invariant k other (omega (arith, below, away.1)) at
    ]

pub unreachable-requires : goal.unreachable-requires
unreachable-requires g c =
    let sides = c.args.sides.now in
    let none = none_of sides c.args.link
    (λ k other below at. c.loop-place.invariant k other (omega (arith, below, c.loop-place-test.false)) at) in
    let both = sym none ∙ c.requires.1 in (cc)
