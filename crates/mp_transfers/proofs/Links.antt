-- The lowest link that goes a transfer's way and that no side has.
use Rattle.std.proofs.Common.{◌≡◌, ℕ, zero, suc, ◌+◌, ◌<◌, List, [], ◌∷◌, Bool, true, false, cond, not, ◌&&◌, Option, Some, None, refl, sym, ap, ◌∙◌, subst, arith}
use Rattle.std.specs.Prelude.{◌==◌, ◌||◌, find, option_map}
use Rattle.std.specs.List.{slice_get, enumerate_from}
use Rattle.std.proofs.lemmas.Bool.{and_parts, eqb-true, eq-eqb}
use Rattle.std.proofs.lemmas.Option.{same_Some}
use Rattle.rv_image_types.specs.declared.images.Link.{Link}
use Rattle.mp_transfers.specs.declared.sides.Setup.{Setup}
use Rattle.mp_transfers.specs.declared.sides.Side.{Side}
use Rattle.mp_transfers.specs.Inits.{is_for, is_reserved, lowest_link}
use Rattle.mp_transfers.specs.Laws.{IsTaken, Joins, LinkLaw}

abbrev pub Test : Type 0
Test = ℕ × Link → Bool

-- ---- links by their numbers

-- the link that is found has a number, passes, and none below it does
pub record IsFirst (p : Test) (n : ℕ) (links : List Link) (l : ℕ × Link) : Type 0 where
  pub place : ℕ
  pub number : l.0 ≡ n + place
  pub there : slice_get links place ≡ Some l.1
  pub passes : p l ≡ true
  pub below : (k : ℕ) (x : Link) → k < place → slice_get links k ≡ Some x → p (n + k, x) ≡ false

pub first_for : (p : Test) (n : ℕ) (links : List Link) (l : ℕ × Link) → find p (enumerate_from n links) ≡ Some l
    → IsFirst p n links l
first_for p n [] l h = absurd (cc)
first_for p n (x ∷ links) l h = go (p (n, x)) refl (λ g. first_for p (n + 1) links l g) h
  where
    go : (b : Bool) → p (n, x) ≡ b
        → (find p (enumerate_from (n + 1) links) ≡ Some l → IsFirst p (n + 1) links l)
        → cond b (Some (n, x)) (find p (enumerate_from (n + 1) links)) ≡ Some l → IsFirst p n (x ∷ links) l
    go true is rest g =
        let same : (n, x) ≡ l = same_Some (n, x) l g in
        let number : n ≡ l.0 = ap (λ (k : ℕ × Link). k.0) same in
        record {
          place = 0;
          number = omega (arith, number);
          there = ap (λ (k : ℕ × Link). Some k.1) same;
          passes = ap p (sym same) ∙ is;
          below = λ k y low at. absurd (omega (arith, low));
        }
    go false is rest g =
        let r = rest g in
        let number = r.number in
        record {
          place = suc r.place;
          number = omega (arith, number);
          there = r.there;
          passes = r.passes;
          below = below is r.below;
        }
      where
        below : {m : ℕ} → p (n, x) ≡ false
            → ((k : ℕ) (y : Link) → k < m → slice_get links k ≡ Some y → p ((n + 1) + k, y) ≡ false)
            → (k : ℕ) (y : Link) → k < suc m → slice_get (x ∷ links) k ≡ Some y → p (n + k, y) ≡ false
        below {m} is rest zero y low at =
            let number : n + 0 ≡ n = omega arith in
            ap (λ k. p (k, y)) number ∙ (ap (λ z. p (n, z)) (sym (same_Some x y at)) ∙ is)
        below {m} is rest (suc k) y low at =
            let number : n + suc k ≡ (n + 1) + k = omega arith in
            ap (λ z. p (z, y)) number ∙ rest k y (omega (arith, low)) at

pub not_found : (p : Test) (n : ℕ) (links : List Link) (d : ℕ) (l : Link)
    → find p (enumerate_from n links) ≡ None → slice_get links d ≡ Some l → p (n + d, l) ≡ false
not_found p n [] d l h e = absurd (cc)
not_found p n (x ∷ links) d l h e =
    go (p (n, x)) refl d e (λ k g. not_found p (n + 1) links k l g) h
  where
    go : (b : Bool) → p (n, x) ≡ b → (d : ℕ) → slice_get (x ∷ links) d ≡ Some l
        → ((k : ℕ) → find p (enumerate_from (n + 1) links) ≡ None → slice_get links k ≡ Some l
        → p ((n + 1) + k, l) ≡ false)
        → cond b (Some (n, x)) (find p (enumerate_from (n + 1) links)) ≡ None → p (n + d, l) ≡ false
    go true f d e rest g = absurd (cc)
    go false f zero e rest g =
        (let same : x ≡ l = same_Some x l e in
        let number : n + 0 ≡ n = omega arith in
        ap (λ k. p (k, l)) number ∙ ap (λ k. p (n, k)) (sym same) ∙ f)
    go false f (suc d) e rest g =
        (let number : n + suc d ≡ (n + 1) + d = omega arith in ap (λ k. p (k, l)) number ∙ rest d g e)

-- ---- links that a side has

taken : (sides : List Side) (link : ℕ) → is_reserved sides link ≡ true → IsTaken sides link
taken [] link e = cc
taken (t ∷ sides) link e = go (t.link == link) refl (λ g. taken sides link g)
  where
    go : (b : Bool) → (t.link == link) ≡ b → (is_reserved sides link ≡ true → IsTaken sides link)
        → IsTaken (t ∷ sides) link
    go true is rest = (0, t, refl, eqb-true t.link link is)
    go false is rest =
        let r = rest (sym (ap (λ b. b || is_reserved sides link) is) ∙ e) in (suc r.0, r.1, r.2, r.3)

reserved : (sides : List Side) (link i : ℕ) (t : Side) → slice_get sides i ≡ Some t → t.link ≡ link
    → is_reserved sides link ≡ true
reserved [] link i t at is = absurd (cc)
reserved (s ∷ sides) link zero t at is =
    let same : s.link ≡ link = ap (λ (x : Side). x.link) (same_Some s t at) ∙ is in
    ap (λ b. b || is_reserved sides link) (eq-eqb s.link link same)
reserved (s ∷ sides) link (suc i) t at is = either (s.link == link) (reserved sides link i t at is)
  where
    either : (b : Bool) → is_reserved sides link ≡ true → (b || is_reserved sides link) ≡ true
    either true e = refl
    either false e = e

from_0 : (p : Test) (k : ℕ) (l : Link) → p (0 + k, l) ≡ false → p (k, l) ≡ false
from_0 p k l e = let same : k ≡ 0 + k = omega arith in ap (λ n. p (n, l)) same ∙ e

-- a link that goes the transfer's way and isn't found is taken
not_for : (sides : List Side) (s : Setup) (k : ℕ) (l : Link) → is_for sides s (k, l) ≡ false → Joins s l
    → IsTaken sides k
not_for sides s k l off joins = taken sides k (go (is_reserved sides k) (sym joined ∙ off))
  where
    joined : is_for sides s (k, l) ≡ not (is_reserved sides k)
    joined =
        ap (λ b. b && (l.to == s.to) && not (is_reserved sides k)) (eq-eqb l.from s.from joins.0)
        ∙ ap (λ b. b && not (is_reserved sides k)) (eq-eqb l.to s.to joins.1)

    go : (b : Bool) → not b ≡ false → b ≡ true
    go true e = refl
    go false e = cc

module _ (links : List Link) (sides : List Side) (s : Setup) (n : ℕ) (h : lowest_link links sides s ≡ Some n) where
  pub record IsGiven : Type 0 where
    pub link : Link
    pub found : IsFirst (is_for sides s) 0 links (n, link)

  given : IsGiven
  given = go (find (is_for sides s) (enumerate_from 0 links)) refl h
    where
      go : (o : Option (ℕ × Link)) → find (is_for sides s) (enumerate_from 0 links) ≡ o
          → option_map (λ (l : ℕ × Link). l.0) o ≡ Some n → IsGiven
      go None e g = absurd (cc)
      go (Some l) e g =
          let same : (l.0, l.1) ≡ (n, l.1) = ap (λ k. (k, l.1)) (same_Some l.0 n g) in
          record { link = l.1; found = subst (λ k. IsFirst (is_for sides s) 0 links k) same (first_for (is_for sides s) 0 links l e) }

  place_is : given.found.place ≡ n
  place_is = let e = given.found.number in omega (arith, e)

  abbrev tests : Bool × Bool
  tests = (given.link.from == s.from, given.link.to == s.to)

  passes : ((tests.0 && tests.1) ≡ true) × (not (is_reserved sides n) ≡ true)
  passes = and_parts (tests.0 && tests.1) (not (is_reserved sides n)) given.found.passes

  joins : (l : Link) × (slice_get links n ≡ Some l) × Joins s l
  joins =
      let both = and_parts tests.0 tests.1 passes.0 in (
        given.link,
        ap (slice_get links) (sym place_is) ∙ given.found.there,
        (eqb-true given.link.from s.from both.0, eqb-true given.link.to s.to both.1),
      )

  free : ¬ IsTaken sides n
  free (i, t, at, is) =
      let on = reserved sides n i t at is in
      let off : false ≡ true = sym (ap not on) ∙ passes.1 in absurd (cc)

  lowest : (lower : ℕ) (l : Link) → lower < n → slice_get links lower ≡ Some l → Joins s l → IsTaken sides lower
  lowest lower l low at ways =
      let e = place_is in not_for sides s lower l (from_0 (is_for sides s) lower l (given.found.below lower l (omega (arith, low, e)) at)) ways

pub law : LinkLaw
law = record {
  joins = joins;
  free = free;
  lowest = lowest;
  none = none;
}
  where
    none : (links : List Link) (sides : List Side) (s : Setup) → lowest_link links sides s ≡ None
        → (k : ℕ) (l : Link) → slice_get links k ≡ Some l → Joins s l → IsTaken sides k
    none links sides s h k l at ways =
        not_for sides s k l
        (from_0 (is_for sides s) k l (not_found (is_for sides s) 0 links k l (empty (find (is_for sides s) (enumerate_from 0 links)) h) at))
        ways
      where
        empty : (o : Option (ℕ × Link)) → option_map (λ (l : ℕ × Link). l.0) o ≡ None → o ≡ None
        empty None e = refl
        empty (Some l) e = absurd (cc)
