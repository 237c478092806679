-- A loop over a list that adds what each of its elements gives.
use Rattle.std.specs.Prelude.{ℕ, ◌≡◌, ◌<◌, ◌≤◌, ◌+◌, List, [], ◌∷◌, ◌++◌, length, take}
use Rattle.std.specs.List.{flat_map}
use Rattle.std.proofs.Common.{◌∙◌, ap, get_or, sym}
use Rattle.std.proofs.lemmas.List.{flat_map_more, take_all, take_more}

-- what one more gives
pub taken_more : {X A : Type 0} (f : X → List A) (xs : List X) (k : ℕ) (d : X) (old so_far new : List A) → k < length xs
    → so_far ≡ old ++ flat_map f (take k xs) → new ≡ so_far ++ f (get_or xs k d)
    → new ≡ old ++ flat_map f (take (k + 1) xs)
taken_more f xs k d old so_far new inside before added =
    added ∙ ap (λ t. t ++ f (get_or xs k d)) before ∙ flat_map_more f old (take k xs) (get_or xs k d)
    ∙ ap (λ ys. old ++ flat_map f ys) (sym (take_more xs k d inside))

-- what all give
pub taken_all : {X A : Type 0} (f : X → List A) (xs : List X) (k : ℕ) (old all : List A) → length xs ≤ k
    → all ≡ old ++ flat_map f (take k xs) → all ≡ old ++ flat_map f xs
taken_all f xs k old all past before = before ∙ ap (λ ys. old ++ flat_map f ys) (take_all k xs past)
