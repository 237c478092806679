-- Edits lead from one list to the other, and back.
use Rattle.std.specs.Prelude.{ℕ, zero, suc, ◌≡◌, ◌+◌, ◌==◌, if◌then◌else◌, Bool, true, false, List, [], ◌∷◌, ◌++◌, length, map}
use Rattle.std.specs.Prelude.{slice_get, slice_set, Some}
use Rattle.std.proofs.Common.{refl, sym, ap, ◌∙◌, append_assoc, arith}
use Rattle.std.proofs.lemmas.List.{length-append}
use Rattle.std.proofs.lemmas.Option.{same_Some}
use Rattle.std.proofs.lemmas.Bool.{eqb-true}
use Rattle.std.proofs.Math.Seq.{set-append_seam}
use Rattle.rvmc_changes.specs.Doing.{at_place, with_new, with_old}
use Rattle.rvmc_changes.specs.Edits.{edits_from}

-- two lists behind a beginning that they share
longer : (p : List ℕ) (x : ℕ) → length (p ++ x ∷ []) ≡ length p + 1
longer p x = length-append p (x ∷ [])

-- one item more, where the rest is led to
new_more : (p : List ℕ) (x y : ℕ) (xs ys : List ℕ)
    → with_new (edits_from (length p + 1) xs ys) (p ++ y ∷ xs) ≡ p ++ y ∷ ys
    → with_new (edits_from (length p) (x ∷ xs) (y ∷ ys)) (p ++ x ∷ xs) ≡ p ++ y ∷ ys
new_more p x y xs ys rest = go (x == y) refl
  where
    go : (b : Bool) → (x == y) ≡ b
        → with_new (if b then edits_from (length p + 1) xs ys
        else record { place = length p; old = x; new = y } ∷ edits_from (length p + 1) xs ys) (p ++ x ∷ xs)
        ≡ p ++ y ∷ ys
    go true e =
        ap (λ z. with_new (edits_from (length p + 1) xs ys) (p ++ z ∷ xs)) (eqb-true x y e) ∙ rest
    go false e =
        ap (with_new (edits_from (length p + 1) xs ys)) (set-append_seam p x xs y) ∙ rest

new_behind : (p xs ys : List ℕ) → length xs ≡ length ys → with_new (edits_from (length p) xs ys) (p ++ xs) ≡ p ++ ys
new_behind p [] [] same = refl
new_behind p [] (y ∷ ys) same = absurd (omega (arith, same))
new_behind p (x ∷ xs) [] same = absurd (omega (arith, same))
new_behind p (x ∷ xs) (y ∷ ys) same =
    new_more p x y xs ys
    (ap (λ n. with_new (edits_from n xs ys) (p ++ y ∷ xs)) (sym (longer p y))
    ∙ ap (λ l. with_new (edits_from (length (p ++ y ∷ [])) xs ys) l) (sym (append_assoc p (y ∷ []) xs))
    ∙ new_behind (p ++ y ∷ []) xs ys (omega (arith, same))
    ∙ append_assoc p (y ∷ []) ys)

old_more : (p : List ℕ) (x y : ℕ) (xs ys : List ℕ)
    → with_old (edits_from (length p + 1) xs ys) (p ++ y ∷ ys) ≡ p ++ y ∷ xs
    → with_old (edits_from (length p) (x ∷ xs) (y ∷ ys)) (p ++ y ∷ ys) ≡ p ++ x ∷ xs
old_more p x y xs ys rest = go (x == y) refl
  where
    go : (b : Bool) → (x == y) ≡ b
        → with_old (if b then edits_from (length p + 1) xs ys
        else record { place = length p; old = x; new = y } ∷ edits_from (length p + 1) xs ys) (p ++ y ∷ ys)
        ≡ p ++ x ∷ xs
    go true e = rest ∙ ap (λ z. p ++ z ∷ xs) (sym (eqb-true x y e))
    go false e = ap (λ l. slice_set l (length p) x) rest ∙ set-append_seam p y xs x

old_behind : (p xs ys : List ℕ) → length xs ≡ length ys → with_old (edits_from (length p) xs ys) (p ++ ys) ≡ p ++ xs
old_behind p [] [] same = refl
old_behind p [] (y ∷ ys) same = absurd (omega (arith, same))
old_behind p (x ∷ xs) [] same = absurd (omega (arith, same))
old_behind p (x ∷ xs) (y ∷ ys) same =
    old_more p x y xs ys
    (ap (λ n. with_old (edits_from n xs ys) (p ++ y ∷ ys)) (sym (longer p y))
    ∙ ap (λ l. with_old (edits_from (length (p ++ y ∷ [])) xs ys) l) (sym (append_assoc p (y ∷ []) ys))
    ∙ old_behind (p ++ y ∷ []) xs ys (omega (arith, same))
    ∙ append_assoc p (y ∷ []) xs)

pub new_there : (xs ys : List ℕ) → length xs ≡ length ys → with_new (edits_from 0 xs ys) xs ≡ ys
new_there xs ys same = new_behind [] xs ys same

pub old_there : (xs ys : List ℕ) → length xs ≡ length ys → with_old (edits_from 0 xs ys) ys ≡ xs
old_there xs ys same = old_behind [] xs ys same

-- an item that is replaced is seen as the other one, made from the one before
pub seen_set : {A B : Type 0} (g : A → B) (f : B → B) (xs : List A) (n : ℕ) (x y : A) → slice_get xs n ≡ Some x
    → f (g x) ≡ g y → at_place n f (map g xs) ≡ map g (slice_set xs n y)
seen_set g f [] n x y at is = absurd (cc)
seen_set g f (z ∷ xs) zero x y at is =
    ap (λ w. f (g w) ∷ map g xs) (same_Some z x at) ∙ ap (λ w. w ∷ map g xs) is
seen_set g f (z ∷ xs) (suc n) x y at is = ap (λ w. g z ∷ w) (seen_set g f xs n x y at is)

-- and back
pub seen_reset : {A B : Type 0} (g : A → B) (f : B → B) (xs : List A) (n : ℕ) (x y : A) → slice_get xs n ≡ Some x
    → f (g y) ≡ g x → at_place n f (map g (slice_set xs n y)) ≡ map g xs
seen_reset g f [] n x y at is = absurd (cc)
seen_reset g f (z ∷ xs) zero x y at is =
    ap (λ w. w ∷ map g xs) is ∙ ap (λ w. g w ∷ map g xs) (sym (same_Some z x at))
seen_reset g f (z ∷ xs) (suc n) x y at is = ap (λ w. g z ∷ w) (seen_reset g f xs n x y at is)
