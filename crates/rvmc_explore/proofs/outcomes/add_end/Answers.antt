use Rattle.std.proofs.Common.{List, ℕ, Some, ◌≡◌, ◌++◌, ◌∙◌, ap, drop, inl, inr, length, slice_get, slice_set, subst, sym, take}
use Rattle.rvmc_explore.specs.InnerOutcomes.{IsBodyAt, one_end_more}
use Rattle.rvmc_explore.proofs.Marked.{changed_slice}
use Rattle.rvmc_explore.proofs.Places.{is_unlike}
use Rattle.rvmc_explore.proofs.outcomes.add_end.Goals as goal

pub returns-in-Some : goal.returns-in-Some
returns-in-Some c =
    let told = c.args.told.now in
    let place = c.in-Some.place in
    let new = c.count_one.new.told in
    let lent = c.as_mut_slice.ensures.value in
    let held : take told.len (new ++ drop (length new) told.items) ≡ new =
    changed_slice told.items c.as_mut_slice.result.now new told.len lent told.ok.0 c.count_one.auto.told in
    inl (
      place,
      subst (λ os. IsBodyAt os c.args.body.items place) c.as_slice.ensures.value
          (subst (λ (text : List ℕ). IsBodyAt c.as_slice.result.now text place) c.as_slice-2.ensures.value
          c.in-Some.ensures.there),
      λ outcome at.
          held
          ∙ (c.count_one.ensures outcome (subst (λ os. slice_get os place ≡ Some outcome) (sym lent) at)
          ∙ ap (λ os. slice_set os place (one_end_more outcome)) lent),
    )

pub returns-in_ok-push-in-None : goal.returns-in_ok-push-in-None
returns-in_ok-push-in-None c = inr (
  is_unlike c.args.told.now.items c.as_slice.result.now c.args.body.items c.as_slice-2.result.now c.as_slice.ensures.value
      c.as_slice-2.ensures.value c.in-None.ensures.new,
  (c.in_ok-outcome-in-None.outcome, c.in_ok-outcome-in-None.ensures, c.in_ok-push-in-None.ensures.items),
)
