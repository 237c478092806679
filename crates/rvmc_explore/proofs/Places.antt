-- Whether a text is told.
use Rattle.std.proofs.Common.{List, ℕ, Option, Some, None, IfNone, IfSome, ◌≡◌, false, subst, sym, true}
use Rattle.std.specs.Option.{is_some}
use Rattle.rvmc_explore.specs.InnerOutcomes.{IsBodyAt}
use Rattle.rvmc_explore.specs.Outcomes.{HasBody}
use Rattle.rvmc_explore.specs.declared.outcomes.Outcome.{Outcome}

-- a list and a text, and where they are lent
module _ (told lent : List Outcome) (body its : List ℕ) (same : lent ≡ told) (text : its ≡ body) where
  pub is_told : HasBody lent its → HasBody told body
  is_told has = subst (λ os. HasBody os body) same (subst (HasBody lent) text has)

  pub is_unlike : (HasBody lent its → ⊥) → HasBody told body → ⊥
  is_unlike unlike has = unlike (subst (HasBody lent) (sym text) (subst (λ os. HasBody os body) (sym same) has))

  pub has_place : (place : Option ℕ) → is_some place ≡ true → IfSome place (IsBodyAt lent its) → HasBody told body
  has_place None is at = absurd (cc)
  has_place (Some place) is at = is_told (place, at.0, at.1, at.2)

  pub has_none : (place : Option ℕ) → is_some place ≡ false → IfNone place (HasBody lent its → ⊥) → HasBody told body → ⊥
  has_none None is unlike = is_unlike unlike
  has_none (Some place) is unlike = absurd (cc)
