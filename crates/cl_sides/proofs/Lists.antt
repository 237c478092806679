-- Lists of sides, of which one is changed.
use Rattle.std.proofs.Common.{◌≡◌, ◌≢◌, ℕ, zero, suc, ◌<◌, ◌==◌, List, [], ◌∷◌, length, set, Bool, true, false, Some, None}
use Rattle.std.proofs.Common.{refl, sym, ap, subst, ◌∙◌, rules, arith}
use Rattle.std.proofs.lemmas.Option.{slice_get_read}
use Rattle.std.specs.Prelude.{◌≤◌, get_or, slice_get, IfSome, option_map, if◌then◌else◌}
use Rattle.cl_sides.specs.Sides.{side_of}
use Rattle.cl_sides.specs.Steps.{changed_side, IsPlace}

pub itself : (n : ℕ) → (n == n) ≡ true
itself n = search rules

pub differs : (l link : ℕ) → l ≢ link → (l == link) ≡ false
differs l link h = search (rules, h)

pub is_equal : (l link : ℕ) → (l == link) ≡ true → l ≡ link
is_equal l link h = search (rules, h)

module _ {S : Type 0} where
  cut_off : (s : S) → Some s ≡ None → ⊥
  cut_off s h = cc

  -- the side that is changed
  pub at_changed : (link : ℕ) (f : S → S) (xs : List (ℕ × S)) →
      side_of link (changed_side link f xs) ≡ option_map f (side_of link xs)
  at_changed link f [] = refl
  at_changed link f (x ∷ xs) = go (x.0 == link) refl (at_changed link f xs)
    where
      go : (b : Bool) → (x.0 == link) ≡ b → side_of link (changed_side link f xs) ≡ option_map f (side_of link xs)
          → side_of link (changed_side link f (x ∷ xs)) ≡ option_map f (side_of link (x ∷ xs))
      go true e h = rw e (rw e refl)
      go false e h = rw e (rw e h)

  -- and any other
  pub beside : (l link : ℕ) (f : S → S) (xs : List (ℕ × S)) → l ≢ link →
      side_of l (changed_side link f xs) ≡ side_of l xs
  beside l link f [] other = refl
  beside l link f (x ∷ xs) other = go (x.0 == link) refl (beside l link f xs other)
    where
      go : (b : Bool) → (x.0 == link) ≡ b → side_of l (changed_side link f xs) ≡ side_of l xs
          → side_of l (changed_side link f (x ∷ xs)) ≡ side_of l (x ∷ xs)
      go true e h = rw e (rw (differs x.0 l (λ k. other (sym k ∙ is_equal x.0 link e))) refl)
      go false e h = rw e (rw h refl)

  -- where there is no such side nothing changes, nor where it becomes what it was
  pub none_changed : (link : ℕ) (f : S → S) (xs : List (ℕ × S)) → side_of link xs ≡ None → changed_side link f xs ≡ xs
  none_changed link f [] none = refl
  none_changed link f (x ∷ xs) none = go (x.0 == link) refl (none_changed link f xs) none
    where
      go : (b : Bool) → (x.0 == link) ≡ b → (side_of link xs ≡ None → changed_side link f xs ≡ xs)
          → side_of link (x ∷ xs) ≡ None → changed_side link f (x ∷ xs) ≡ x ∷ xs
      go true e h none = absurd (cut_off x.1 (subst (λ b. (if b then Some x.1 else side_of link xs) ≡ None) e none))
      go false e h none = rw e (ap (λ l. x ∷ l)
          (h (subst (λ b. (if b then Some x.1 else side_of link xs) ≡ None) e none)))

  pub same_changed : (link : ℕ) (f : S → S) (xs : List (ℕ × S)) → ((s : S) → side_of link xs ≡ Some s → f s ≡ s)
      → changed_side link f xs ≡ xs
  same_changed link f [] same = refl
  same_changed link f (x ∷ xs) same = go (x.0 == link) refl (same_changed link f xs) same
    where
      go : (b : Bool) → (x.0 == link) ≡ b
          → (((s : S) → side_of link xs ≡ Some s → f s ≡ s) → changed_side link f xs ≡ xs)
          → ((s : S) → side_of link (x ∷ xs) ≡ Some s → f s ≡ s) → changed_side link f (x ∷ xs) ≡ x ∷ xs
      go true e h same = rw e (ap (λ s. (x.0, s) ∷ xs) (same x.1 (rw e refl)))
      go false e h same = rw e (ap (λ l. x ∷ l) (h (λ s at. same s (rw e at))))

  -- a side is found at its place
  pub at_place : (link : ℕ) (xs : List (ℕ × S)) (i : ℕ) (s : S) → slice_get xs i ≡ Some (link, s)
      → ((k : ℕ) (x : ℕ × S) → k < i → slice_get xs k ≡ Some x → (x.0 == link) ≡ false) → IsPlace link xs (Some i)
  at_place link [] i s is before = absurd (cc)
  at_place link (x ∷ xs) zero s is before =
      let e : x ≡ (link, s) = cc in
      (s, is, here e, λ f. first e f)
    where
      same : x ≡ (link, s) → (x.0 == link) ≡ true
      same e = ap (λ y. y.0 == link) e ∙ itself link

      here : x ≡ (link, s) → side_of link (x ∷ xs) ≡ Some s
      here e = rw (same e) (ap (λ y. Some y.1) e)

      first : x ≡ (link, s) → (f : S → S) → (link, f s) ∷ xs ≡ changed_side link f (x ∷ xs)
      first e f = rw (same e) (ap (λ (y : ℕ × S). (y.0, f y.1) ∷ xs) (sym e))
  at_place link (x ∷ xs) (suc i) s is before =
      let other : (x.0 == link) ≡ false = before 0 x (omega arith) refl in
      let rest : IsPlace link xs (Some i) = at_place link xs i s is (λ k y low there. before (suc k) y (omega (arith, low)) there) in
      (rest.0, rest.1, rw other rest.2, λ f. rw other (ap (λ l. x ∷ l) (rest.3 f)))

  no_place : (link : ℕ) (xs : List (ℕ × S))
      → ((k : ℕ) (x : ℕ × S) → slice_get xs k ≡ Some x → (x.0 == link) ≡ false) → side_of link xs ≡ None
  no_place link [] before = refl
  no_place link (x ∷ xs) before =
      rw (before 0 x refl) (no_place link xs (λ k y there. before (suc k) y there))

  found_low : (xs : List (ℕ × S)) (k : ℕ) (x : ℕ × S) → slice_get xs k ≡ Some x → k < length xs
  found_low [] k x e = absurd (cut_off_pair x (sym e))
    where
      cut_off_pair : (x : ℕ × S) → Some x ≡ None → ⊥
      cut_off_pair x h = cc
  found_low (y ∷ ys) zero x e = omega arith
  found_low (y ∷ ys) (suc k) x e = let low : k < length ys = found_low ys k x e in omega (arith, low)

  -- the first side that has the link, and none
  abbrev pub NoneBefore : ℕ → List (ℕ × S) → ℕ → Type 0
  NoneBefore link xs i = (k : ℕ) → k < i → IfSome (slice_get xs k) (λ x. (x.0 == link) ≡ false)

  before_at : (link : ℕ) (xs : List (ℕ × S)) (i : ℕ) → NoneBefore link xs i → (k : ℕ) (x : ℕ × S) → k < i
      → slice_get xs k ≡ Some x → (x.0 == link) ≡ false
  before_at link xs i before k x low is = subst (λ o. IfSome o (λ x. (x.0 == link) ≡ false)) is (before k low)

  pub found : (link : ℕ) (xs : List (ℕ × S)) (i : ℕ) (x : ℕ × S) → i < length xs → x ≡ get_or xs i x
      → (get_or xs i x).0 ≡ link → NoneBefore link xs i → IsPlace link xs (Some i)
  found link xs i x low is at before =
      let here : slice_get xs i ≡ Some x = slice_get_read xs (length xs) i x refl low is in
      let named : x.0 ≡ link = ap (λ (y : ℕ × S). y.0) is ∙ at in
      at_place link xs i x.1 (here ∙ ap (λ n. Some (n, x.1)) named) (before_at link xs i before)

  pub not_found : (link : ℕ) (xs : List (ℕ × S)) (i : ℕ) → length xs ≤ i → NoneBefore link xs i
      → side_of link xs ≡ None
  not_found link xs i long before =
      no_place link xs
      (λ k x is. before_at link xs i before k x (let low : k < length xs = found_low xs k x is in omega (arith, low, long)) is)

  pub left_alone : (link : ℕ) (f : S → S) (xs : List (ℕ × S)) → side_of link xs ≡ None → xs ≡ changed_side link f xs
  left_alone link f xs none = sym (none_changed link f xs none)

  -- what stands at a place
  at_index : (xs : List (ℕ × S)) (i : ℕ) (x y : ℕ × S) → slice_get xs i ≡ Some y → get_or xs i x ≡ y
  at_index [] i x y e = absurd (none_some y e)
    where
      none_some : (y : ℕ × S) → None ≡ Some y → ⊥
      none_some y h = cc
  at_index (z ∷ zs) zero x y e = same_pair z y e
    where
      same_pair : (z y : ℕ × S) → Some z ≡ Some y → z ≡ y
      same_pair z y h = cc
  at_index (z ∷ zs) (suc i) x y e = at_index zs i x y e

  abbrev pub Placed : ℕ → List (ℕ × S) → ℕ → ℕ × S → Type 0
  Placed link xs i x =
      (side_of link xs ≡ Some x.1) × ((f : S → S) → set xs i (x.0, f x.1) ≡ changed_side link f xs)

  pub placed : (link : ℕ) (xs : List (ℕ × S)) (i : ℕ) (x : ℕ × S) → IsPlace link xs (Some i) → x ≡ get_or xs i x
      → Placed link xs i x
  placed link xs i x place is =
      subst (Placed link xs i) (sym (is ∙ at_index xs i x (link, place.0) place.1)) (place.2, place.3)

  pub same_side : (link : ℕ) (xs : List (ℕ × S)) (s t : S) → side_of link xs ≡ Some s → side_of link xs ≡ Some t → s ≡ t
  same_side link xs s t p q = both s t (sym p ∙ q)
    where
      both : (s t : S) → Some s ≡ Some t → s ≡ t
      both s t h = cc
