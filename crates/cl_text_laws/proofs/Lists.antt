-- Facts on each element of a list.
use Rattle.std.specs.Prelude.{ℕ, zero, suc, ◌≡◌, List, [], ◌∷◌, ◌++◌, slice_get, slice_set, Some, Bool, true, false}
use Rattle.std.specs.Prelude.{cond, filter, set, get_or, replicate}
use Rattle.std.specs.List.{AllByRecursion}
use Rattle.std.proofs.Common.{subst}
use Rattle.std.proofs.lemmas.Option.{same_Some}

pub all-append : {X : Type 0} (P : X → Type 0) (xs : List X) (x : X) → AllByRecursion P xs → P x
    → AllByRecursion P (xs ++ x ∷ [])
all-append P [] x all one = (one, tt)
all-append P (y ∷ xs) x all one = (all.0, all-append P xs x all.1 one)

all-cond : {X : Type 0} (P : X → Type 0) (b : Bool) (x : X) (xs : List X) → P x → AllByRecursion P xs
    → AllByRecursion P (cond b (x ∷ xs) xs)
all-cond P true x xs one all = (one, all)
all-cond P false x xs one all = all

pub all-filter : {X : Type 0} (P : X → Type 0) (p : X → Bool) (xs : List X) → AllByRecursion P xs
    → AllByRecursion P (filter p xs)
all-filter P p [] all = tt
all-filter P p (x ∷ xs) all = all-cond P (p x) x (filter p xs) all.0 (all-filter P p xs all.1)

pub all_at : {X : Type 0} (P : X → Type 0) (xs : List X) (i : ℕ) (x : X) → AllByRecursion P xs → slice_get xs i ≡ Some x
    → P x
all_at P [] i x all at = absurd (cc)
all_at P (y ∷ xs) zero x all at = subst P (same_Some y x at) all.0
all_at P (y ∷ xs) (suc i) x all at = all_at P xs i x all.1 at

pub all-set : {X : Type 0} (P : X → Type 0) (xs : List X) (i : ℕ) (x : X) → AllByRecursion P xs → P x
    → AllByRecursion P (set xs i x)
all-set P [] i x all one = tt
all-set P (y ∷ xs) zero x all one = (one, all.1)
all-set P (y ∷ xs) (suc i) x all one = (all.0, all-set P xs i x all.1 one)

pub all-get_or : {X : Type 0} (P : X → Type 0) (xs : List X) (i : ℕ) (d : X) → AllByRecursion P xs → P d
    → P (get_or xs i d)
all-get_or P [] i d all past = past
all-get_or P (y ∷ xs) zero d all past = all.0
all-get_or P (y ∷ xs) (suc i) d all past = all-get_or P xs i d all.1 past

pub all-replicate : {X : Type 0} (P : X → Type 0) (n : ℕ) (x : X) → P x → AllByRecursion P (replicate n x)
all-replicate P zero x one = tt
all-replicate P (suc n) x one = (one, all-replicate P n x one)

-- each element of a list with one changed is that one, or was there
pub each-set : {X : Type 0} (P : X → Type 0) (xs : List X) (k : ℕ) (x y : X)
    → ((i : ℕ) (z : X) → slice_get xs i ≡ Some z → P z) → slice_get xs k ≡ Some x → P y
    → (i : ℕ) (z : X) → slice_get (slice_set xs k y) i ≡ Some z → P z
each-set P [] k x y each there one i z at = absurd (cc)
each-set P (w ∷ xs) zero x y each there one zero z at = subst P (same_Some y z at) one
each-set P (w ∷ xs) zero x y each there one (suc i) z at = each (suc i) z at
each-set P (w ∷ xs) (suc k) x y each there one zero z at = each zero z at
each-set P (w ∷ xs) (suc k) x y each there one (suc i) z at =
    each-set P xs k x y (λ j u. each (suc j) u) there one i z at
