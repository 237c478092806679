-- Runs of what is read are joined and cut.
use Rattle.std.specs.Prelude.{ℕ, ◌≡◌, List, [], ◌∷◌, ◌++◌}
use Rattle.std.proofs.Common.{refl, sym, ap, subst, ◌∙◌, append_assoc}
use Rattle.std.proofs.lemmas.List.{append-nil}
use Rattle.rvmc_gdb.specs.Following.{Follows}

module _ {S X : Type 0} (step : S → X → S → List ℕ → Type 0) where
  pub joined : (old : S) (xs ys : List X) (mid new : S) (one other : List ℕ) → Follows step old xs mid one
      → Follows step mid ys new other → Follows step old (xs ++ ys) new (one ++ other)
  joined old [] ys mid new one other a b =
      subst (λ (s : S). Follows step s ys new (one ++ other)) a.0
      (subst (λ (t : List ℕ). Follows step mid ys new (t ++ other)) (sym a.1) b)
  joined old (x ∷ xs) ys mid new one other a b = (
    a.0,
    a.1,
    a.2 ++ other,
    a.3,
    joined a.0 xs ys mid new a.2 other a.4 b,
    ap (λ (t : List ℕ). t ++ other) a.5 ∙ append_assoc a.1 a.2 other,
  )

  pub cut : (old : S) (xs ys : List X) (new : S) (text : List ℕ) → Follows step old (xs ++ ys) new text
      → (between : S) × (one : List ℕ) × (other : List ℕ) × Follows step old xs between one
      × Follows step between ys new other × (text ≡ one ++ other)
  cut old [] ys new text a = (old, [], text, (refl, refl), a, refl)
  cut old (x ∷ xs) ys new text a =
      let rest = cut a.0 xs ys new a.2 a.4 in (
        rest.0,
        a.1 ++ rest.1,
        rest.2,
        (a.0, a.1, rest.1, a.3, rest.3, refl),
        rest.4,
        a.5 ∙ ap (λ (t : List ℕ). a.1 ++ t) rest.5 ∙ sym (append_assoc a.1 rest.1 rest.2),
      )

  pub alone : (old : S) (x : X) (new : S) (text : List ℕ) → step old x new text → Follows step old (x ∷ []) new text
  alone old x new text a = (new, text, [], a, (refl, refl), sym (append-nil text))

  pub none : (old : S) → Follows step old [] old []
  none old = (refl, refl)

  -- with one more behind them
  pub more : (old : S) (xs : List X) (x : X) (mid new : S) (one other : List ℕ) → Follows step old xs mid one
      → step mid x new other → Follows step old (xs ++ x ∷ []) new (one ++ other)
  more old xs x mid new one other a b = joined old xs (x ∷ []) mid new one other a (alone mid x new other b)
