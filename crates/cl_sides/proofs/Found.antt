-- What the code knows of a side, and of its channel, once it looked for it.
use Rattle.std.proofs.Common.{◌≡◌, ◌<◌, ◌∙◌, ℕ, List, None, Option, Some, ap, get_or, length, set, subst, sym}
use Rattle.std.proofs.lemmas.Option.{slice_get_within}
use Rattle.cl_sides.specs.Sides.{side_of}
use Rattle.cl_sides.specs.Steps.{IsPlace, changed_side}
use Rattle.cl_sides.proofs.Lists.{Placed, left_alone, placed}
use Rattle.cl_sides.proofs.Stepped.{at_found}

module _ {S : Type 0} (link : ℕ) (slice items : List (ℕ × S)) (found : Option ℕ) (same : slice ≡ items)
    (place : IsPlace link slice found) where
  none_some : (s : S) → None ≡ Some s → ⊥
  none_some s h = cc

  -- one that is there is found
  pub not_missing : (s : S) → found ≡ None → side_of link items ≡ Some s → ⊥
  not_missing s is there =
      none_some s
      (sym (subst (λ xs. side_of link xs ≡ None) same (subst (IsPlace link slice) is place)) ∙ there)

  -- and stands in the list
  pub place_within : (at : ℕ) → found ≡ Some at → at < length items
  place_within at is =
      let there = subst (λ xs. IsPlace link xs (Some at)) same (subst (IsPlace link slice) is place) in
      slice_get_within items at (link, there.0) there.1

  -- it is the side of the link
  it_stands : (at : ℕ) (x : ℕ × S) → found ≡ Some at → x ≡ get_or items at x → Placed link items at x
  it_stands at x is here = placed link items at x (at_found link at slice items found same is place) here

  pub side_there : (at : ℕ) (x : ℕ × S) → found ≡ Some at → x ≡ get_or items at x → side_of link items ≡ Some x.1
  side_there at x is here = (it_stands at x is here).0

  -- so that the side of the link is changed where it is, and nothing where there is none
  pub changed_there : (change : S → S) (at : ℕ) (x : ℕ × S) (new : S) → found ≡ Some at → x ≡ get_or items at x
      → new ≡ change x.1 → set items at (x.0, new) ≡ changed_side link change items
  changed_there change at x new is here now =
      ap (λ s. set items at (x.0, s)) now ∙ (it_stands at x is here).1 change

  pub none_there : (change : S → S) → found ≡ None → items ≡ changed_side link change items
  none_there change is =
      left_alone link change items
      (subst (λ xs. side_of link xs ≡ None) same (subst (IsPlace link slice) is place))
