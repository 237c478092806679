-- A machine of parts runs where each part alone runs.
use Rattle.std.specs.Prelude.{ℕ, List, [], ◌∷◌, ◌≡◌, cond}
use Rattle.std.specs.List.{slice_get, slice_set}
use Rattle.std.specs.declared.option.Option.{Option}
use Rattle.std.specs.declared.option.Option.TheVariants.{None, Some}
use Rattle.std.proofs.Common.{refl, sym, ap, subst}
use Rattle.std.proofs.lemmas.Bool.{eq-eqb}
use Rattle.std.proofs.lemmas.Bool.Decides.{eqb_tells}
use mathlib.Core.Logic.{inl, inr}
use Rattle.cl_machine.proofs.Lists.{same_by_index, get-set_same, get-set_other}
use Rattle.cl_machine.specs.Parts.{PartRunAt, is_index, own}
use Rattle.cl_machine.specs.PartRuns.{EachPartRuns, PartsMove, PartsMoveAt}

module _ {S D : Type 0} (Move : S → D → S → Type 0) (at : D → Option ℕ) where
  same_at : (o p : Option S) → PartRunAt Move o [] p → p ≡ o
  same_at (Some s) (Some t) h = ap Some h
  same_at None None h = refl
  same_at (Some s) None h = absurd h
  same_at None (Some t) h = absurd h

  -- with nothing left to do, all parts stand as they end
  pub parts_end : (old new : List S) → EachPartRuns Move at old [] new → new ≡ old
  parts_end old new h = same_by_index new old (λ i. same_at (slice_get old i) (slice_get new i) (h i))

  -- a part that has an event of its own is there
  first : (o p : Option S) (d : D) (ds : List D) → PartRunAt Move o (d ∷ ds) p
      → (s : S) × (t : S) × (o ≡ Some s) × Move s d t × PartRunAt Move (Some t) ds p
  first (Some s) (Some u) d ds h = (s, h.0, refl, h.1, h.2)
  first None None d ds h = absurd (cc)
  first (Some s) None d ds h = absurd h
  first None (Some u) d ds h = absurd h

  -- the first event moves its part, and what is left is each part's again
  step_at : (k : Option ℕ) (old new : List S) (d : D) (ds : List D)
      → ((i : ℕ)
      → PartRunAt Move (slice_get old i) (cond (is_index i k) (d ∷ own at i ds) (own at i ds)) (slice_get new i))
      → (mid : List S) × PartsMoveAt Move k old d mid × EachPartRuns Move at mid ds new
  step_at None old new d ds h = (old, refl, h)
  step_at (Some k) old new d ds h =
      let f = first (slice_get old k) (slice_get new k) d (own at k ds)
      (subst (λ b. PartRunAt Move (slice_get old k) (cond b (d ∷ own at k ds) (own at k ds)) (slice_get new k)) (eq-eqb k k refl) (h k)) in (
        slice_set old k f.1,
        (f.0, f.1, f.2, f.3, refl),
        λ i.
            elim (eqb_tells k i) [
              | inl e ↦ subst (λ j. PartRunAt Move (slice_get (slice_set old k f.1) j) (own at j ds) (slice_get new j)) e.1
                  (subst (λ o. PartRunAt Move o (own at k ds) (slice_get new k)) (sym (get-set_same old k f.0 f.1 f.2)) f.4)
              | inr e ↦ subst (λ o. PartRunAt Move o (own at i ds) (slice_get new i)) (sym (get-set_other old k i f.1 e.1))
                  (subst (λ b. PartRunAt Move (slice_get old i) (cond b (d ∷ own at i ds) (own at i ds)) (slice_get new i)) e.0 (h i))
            ],
      )

  pub parts_step : (old new : List S) (d : D) (ds : List D) → EachPartRuns Move at old (d ∷ ds) new
      → (mid : List S) × PartsMove Move at old d mid × EachPartRuns Move at mid ds new
  parts_step old new d ds h = step_at (at d) old new d ds h
