-- What is read one after another, each with what is written for it.
use Rattle.std.specs.Prelude.{ℕ, ◌≡◌, List, [], ◌∷◌, ◌++◌}

-- from one state to another by all of these in order, with all that is written for them
abbrev pub Follows : {S X : Type 0} → (S → X → S → List ℕ → Type 0) → S → List X → S → List ℕ → Type 0
Follows {S = S} step old [] new text = (new ≡ old) × (text ≡ [])
Follows {S = S} step old (x ∷ xs) new text =
    (next : S) × (first : List ℕ) × (rest : List ℕ) × step old x next first × Follows step next xs new rest
    × (text ≡ first ++ rest)
