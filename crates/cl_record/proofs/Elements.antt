-- Elements of lists by their numbers.
use Rattle.std.specs.Prelude.{ℕ, zero, suc, ◌≡◌, ◌<◌, ◌⊎◌, List, [], ◌∷◌, ◌++◌, length, map, slice_get, Some, All}
use Rattle.std.specs.Prelude.{option_map}
use Rattle.std.proofs.Common.{refl, sym, ap, ◌∙◌, subst, arith}
use Rattle.std.proofs.lemmas.List.{append-nil}
use Rattle.std.proofs.lemmas.Option.{get_or_from_slice_get, same_Some, slice_get-map, slice_get_within}
use Rattle.rv_image_types.specs.declared.images.Link.{Link}
use Rattle.rv_image_types.specs.Image.{IsLink}
use mathlib.Core.Logic.{inl, inr}

-- an element of a list with one more
pub last_or_before : {X : Type 0} (xs : List X) (x y : X) (n : ℕ) → slice_get (xs ++ x ∷ []) n ≡ Some y
    → (slice_get xs n ≡ Some y) ⊎ ((n ≡ length xs) × (x ≡ y))
last_or_before [] x y zero h = inr (refl, same_Some x y h)
last_or_before [] x y (suc n) h = absurd (cc)
last_or_before (z ∷ xs) x y zero h = inl h
last_or_before (z ∷ xs) x y (suc n) h = elim (last_or_before xs x y n h) [ inl e ↦ inl e | inr e ↦ inr (ap suc e.0, e.1) ]

-- there is one at each number below the count
pub at_below : {X : Type 0} (xs : List X) (i : ℕ) → i < length xs → (x : X) × (slice_get xs i ≡ Some x)
at_below [] i below = absurd (omega (arith, below))
at_below (x ∷ xs) zero below = (x, refl)
at_below (x ∷ xs) (suc i) below = at_below xs i (omega (arith, below))

-- what stands at a number of what a function made of a list
pub from_map : {X Y : Type 0} (f : X → Y) (xs : List X) (n : ℕ) (y : Y) → slice_get (map f xs) n ≡ Some y
    → (x : X) × (slice_get xs n ≡ Some x) × (f x ≡ y)
from_map f [] n y h = absurd (cc)
from_map f (x ∷ xs) zero y h = (x, refl, same_Some (f x) y h)
from_map f (x ∷ xs) (suc n) y h = from_map f xs n y h

pub to_map : {X Y : Type 0} (f : X → Y) (xs : List X) (n : ℕ) (x : X) → slice_get xs n ≡ Some x
    → slice_get (map f xs) n ≡ Some (f x)
to_map f xs n x h = slice_get-map f xs n ∙ ap (option_map f) h

-- a link of a list of links
pub link_at : (n : ℕ) (links : List Link) (link : ℕ) (l : Link) → All (IsLink n) links → slice_get links link ≡ Some l
    → IsLink n l
link_at n links link l all at =
    subst (IsLink n) (get_or_from_slice_get links link l l at) (all link l (slice_get_within links link l at))

-- a list that is gone through
pub all_yielded : {X : Type 0} (yielded rest all : List X) → yielded ++ rest ≡ all → length rest ≡ 0 → yielded ≡ all
all_yielded yielded [] all whole none = sym (append-nil yielded) ∙ whole
all_yielded yielded (x ∷ rest) all whole none = absurd (omega (arith, none))
