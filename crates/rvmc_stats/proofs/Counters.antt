-- One element more, and how many there are of which something holds.
use Rattle.std.specs.Prelude.{ℕ, ◌+◌, ◌*◌, ◌/◌, ◌%◌, ◌≡◌, ◌==◌, ◌&&◌, Bool, true, false, cond, List, [], ◌∷◌, ◌++◌}
use Rattle.std.specs.List.{count_by, filter, sum_by}
use Rattle.std.proofs.Common.{refl, sym, ap, ◌∙◌, arith, rules}
use Rattle.std.proofs.lemmas.Grind.{common_steps}
use Rattle.std.proofs.lemmas.List.Elements.{filter-append}
use Rattle.std.proofs.lemmas.List.Sums.{sum_by-append}

none_plus : (n : ℕ) → 0 + n ≡ n
none_plus n = omega arith

pub count_more : {X : Type 0} (p : X → Bool) (xs : List X) (x : X)
    → count_by p (xs ++ x ∷ []) ≡ count_by p xs + cond (p x) 1 0
count_more p xs x =
    sum_by-append (λ y. cond (p y) 1 0) xs (x ∷ []) ∙ ap (λ n. count_by p xs + n) (none_plus (cond (p x) 1 0))

pub sum_more : {X : Type 0} (f : X → ℕ) (p : X → Bool) (xs : List X) (x : X)
    → sum_by f (filter p (xs ++ x ∷ [])) ≡ sum_by f (filter p xs) + cond (p x) (f x) 0
sum_more f p xs x =
    ap (λ ys. sum_by f ys) (filter-append p xs (x ∷ [])) ∙ sum_by-append f (filter p xs) (filter p (x ∷ []))
    ∙ ap (λ n. sum_by f (filter p xs) + n) (one (p x))
  where
    one : (b : Bool) → sum_by f (cond b (x ∷ []) []) ≡ cond b (f x) 0
    one true = none_plus (f x)
    one false = refl

-- two tests
pub both : (a b : Bool) (n : ℕ) → cond (a && b) n 0 ≡ cond a (cond b n 0) 0
both true b n = refl
both false b n = refl

-- an address that is a multiple of 4 is that of its word alone, and no other is one
pub word_is : (pc word : ℕ) → (pc % 4 == 0) ≡ true → (pc == 4 * word) ≡ (word == pc / 4)
word_is pc word whole = grind (arith, common_steps)

pub no_word : (pc word : ℕ) → (pc % 4 == 0) ≡ false → (pc == 4 * word) ≡ false
no_word pc word split = grind (arith, common_steps)
