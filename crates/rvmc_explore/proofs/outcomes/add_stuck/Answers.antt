use Rattle.std.proofs.Common.{◌∙◌, inl, inr, refl, sym}
use Rattle.rvmc_explore.proofs.Places.{has_none, has_place}
use Rattle.rvmc_explore.proofs.outcomes.add_stuck.Goals as goal

pub returns-then-is_some : goal.returns-then-is_some
returns-then-is_some c = inl (
  has_place c.args.told.now.items c.as_slice.result.now c.args.body.items c.as_slice-2.result.now c.as_slice.ensures.value
      c.as_slice-2.ensures.value c.place_of.result (sym c.is_some.ensures ∙ c.if-is_some.true) c.place_of.ensures.there,
  refl,
)

pub returns : goal.returns
returns c = inr (
  has_none c.args.told.now.items c.as_slice.result.now c.args.body.items c.as_slice-2.result.now c.as_slice.ensures.value
      c.as_slice-2.ensures.value c.place_of.result (sym c.is_some.ensures ∙ c.if-is_some.false) c.place_of.ensures.new,
  (c.in_ok-outcome.outcome, c.in_ok-outcome.ensures, c.in_ok-push.ensures.items),
)
