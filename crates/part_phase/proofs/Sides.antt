-- The sides of a rank, each by its link.
use Rattle.std.proofs.Common.{◌≡◌, ℕ, zero, suc, Bool, true, false, [], ◌∷◌, Some, refl, ap, ◌∙◌}
use Rattle.std.specs.Prelude.{◌≢◌, ◌==◌, slice_get, option_map}
use Rattle.std.proofs.lemmas.Bool.{eq-eqb, eqb-true}
use Rattle.std.proofs.lemmas.List.{get_or-set_same, get_or-set_other}
use Rattle.std.proofs.lemmas.Option.{slice_get-map}
use Rattle.part_phase.specs.Laws.{FirstSidesLaw, OneSideLaw, ReadiedLaw}
use Rattle.part_phase.specs.Phases.{changed_at, first_phase, first_phases}

-- the test tells which end a rank is
yes : (a b : ℕ) → a ≡ b → (a == b) ≡ true
yes a b e = eq-eqb a b e

no : (a b : ℕ) → a ≢ b → (a == b) ≡ false
no a b other = go (a == b) refl
  where
    go : (t : Bool) → (a == b) ≡ t → (a == b) ≡ false
    go true e = absurd (other (eqb-true a b e))
    go false e = e

pub first_sides : FirstSidesLaw
first_sides links rank n link there = (
  λ from. at ∙ ap Some (rw (yes link.from rank from) refl),
  λ from to. at ∙ ap Some (rw (no link.from rank from) (rw (yes link.to rank to) refl)),
  λ from to. at ∙ ap Some (rw (no link.from rank from) (rw (no link.to rank to) refl)),
)
  where
    at : slice_get (first_phases links rank) n ≡ Some (first_phase rank link)
    at = slice_get-map (first_phase rank) links n ∙ ap (option_map (first_phase rank)) there

pub one_side : OneSideLaw
one_side [] link change = (refl, λ other not. refl)
one_side (p ∷ phases) zero change = (refl, λ other not. others other not)
  where
    others : (other : ℕ) → other ≢ zero → slice_get (change p ∷ phases) other ≡ slice_get (p ∷ phases) other
    others zero not = absurd (not refl)
    others (suc other) not = refl
one_side (p ∷ phases) (suc link) change =
    let rest = one_side phases link change in (rest.0, λ other not. others rest.1 other not)
  where
    others : ((k : ℕ) → k ≢ link → slice_get (changed_at link change phases) k ≡ slice_get phases k) → (other : ℕ)
        → other ≢ suc link → slice_get (p ∷ changed_at link change phases) other ≡ slice_get (p ∷ phases) other
    others rest zero not = refl
    others rest (suc other) not = rest other (λ e. not (ap suc e))

pub readied_one : ReadiedLaw
readied_one p part within = (
  get_or-set_same p.ready part true false within,
  λ other not. get_or-set_other p.ready part other true false not,
)
