use Rattle.std.proofs.Common.{◌≡◌, ap, arith, false, inl, inr, subst, sym, true, ◌∙◌}
use Rattle.std.proofs.lemmas.Bool.{cases_eq}
use Rattle.std.proofs.lemmas.Option.{same_Some, slice_get_within}
use Rattle.std.specs.Prelude.{Some, slice_get}
use Rattle.cl_explore.proofs.Lists.{read_of}
use Rattle.rvmc_explore.specs.declared.outcomes.Outcome.{Outcome}
use Rattle.rvmc_explore.proofs.outcomes.place_of.Goals as goal

pub returns-then-is_body-clause-there : goal.returns-then-is_body-clause-there
returns-then-is_body-clause-there c = (
  c.index-told-place.result,
  read_of c.args.told.now c.loop-place.place c.index-told-place.result c.loop-place-test.true c.index-told-place.is,
  c.is_body.ensures.0 c.if-is_body.true,
)

pub loop-place-preserved : goal.loop-place-preserved
loop-place-preserved c = λ k outcome low at same. elim (cases_eq c.loop-place.place k) [
  | inl here ↦
      let told = c.args.told.now in
      let one = c.index-told-place.result in
      let there = read_of told c.loop-place.place one c.loop-place-test.true c.index-told-place.is in
      let is : one ≡ outcome =
      same_Some one outcome (sym there ∙ subst (λ j. slice_get told j ≡ Some outcome) (sym here) at) in
      let yes = c.is_body.ensures.1 (ap (λ (o : Outcome). o.body.items) is ∙ same) in
      let no : true ≡ false = sym yes ∙ c.if-is_body.false in
      absurd (cc)
  | inr other ↦ c.loop-place.invariant k outcome (omega (arith, low, other)) at same
]

pub returns-clause-new : goal.returns-clause-new
returns-clause-new c = λ has.
    let inside = slice_get_within c.args.told.now has.0 has.1 has.2 in
    c.loop-place.invariant has.0 has.1 (omega (arith, inside, c.loop-place-test.false)) has.2 has.3
