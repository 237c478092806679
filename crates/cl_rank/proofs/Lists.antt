-- Lists of keys and of phases, of which one is changed.
use Rattle.std.proofs.Common.{◌≡◌, ◌≢◌, ℕ, zero, suc, List, [], ◌∷◌, refl, ap}
use Rattle.std.specs.Prelude.{slice_get, option_map}
use Rattle.part_channel.specs.Sending.{modified}
use Rattle.part_phase.specs.declared.phases.Phase.{Phase}
use Rattle.part_phase.specs.Phases.{changed_at}
pub use Rattle.cl_sides.proofs.Lists.{itself}

module _ {S : Type 0} where
  -- an element that is modified, and another
  pub at_modified : (xs : List S) (i : ℕ) (f : S → S) → slice_get (modified xs i f) i ≡ option_map f (slice_get xs i)
  at_modified [] i f = refl
  at_modified (x ∷ xs) zero f = refl
  at_modified (x ∷ xs) (suc i) f = at_modified xs i f

  pub beside_modified : (xs : List S) (i j : ℕ) (f : S → S) → j ≢ i → slice_get (modified xs i f) j ≡ slice_get xs j
  beside_modified [] i j f other = refl
  beside_modified (x ∷ xs) zero zero f other = absurd (other refl)
  beside_modified (x ∷ xs) zero (suc j) f other = refl
  beside_modified (x ∷ xs) (suc i) zero f other = refl
  beside_modified (x ∷ xs) (suc i) (suc j) f other = beside_modified xs i j f (λ e. other (ap suc e))

pub phase_changed : (link : ℕ) (g : Phase → Phase) (ps : List Phase) →
    slice_get (changed_at link g ps) link ≡ option_map g (slice_get ps link)
phase_changed link g [] = refl
phase_changed zero g (p ∷ ps) = refl
phase_changed (suc link) g (p ∷ ps) = phase_changed link g ps

pub phase_beside : (l link : ℕ) (g : Phase → Phase) (ps : List Phase) → l ≢ link →
    slice_get (changed_at link g ps) l ≡ slice_get ps l
phase_beside l link g [] other = refl
phase_beside zero zero g (p ∷ ps) other = absurd (other refl)
phase_beside (suc l) zero g (p ∷ ps) other = refl
phase_beside zero (suc link) g (p ∷ ps) other = refl
phase_beside (suc l) (suc link) g (p ∷ ps) other = phase_beside l link g ps (λ e. other (ap suc e))
