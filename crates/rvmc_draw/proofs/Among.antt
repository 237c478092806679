-- What stands in lists that were put together.
use Rattle.std.specs.Prelude.{ℕ, zero, suc, ◌≡◌, ◌⊎◌, ◌+◌, ◌<◌, ◌≤◌, List, [], ◌∷◌, ◌++◌, length, option_to_list, Option, Some, None}
use Rattle.std.specs.List.{flat_map, range_with_len}
use Rattle.std.proofs.Common.{refl, sym, ap, ◌∙◌, subst, inl, inr, append-nil, append_assoc, arith}
use Rattle.rvmc_draw.specs.Among.{IsAdded, IsAmong}
use Rattle.rvmc_draw.specs.Walks.{each_after}
use Rattle.rvmc_draw.specs.declared.deeds.Deed.{Deed}

pub among_left : {A : Type 0} (xs ys : List A) (x : A) → IsAmong xs x → IsAmong (xs ++ ys) x
among_left xs ys x is = record {
  front = is.front;
  back = is.back ++ ys;
  are = ap (λ l. l ++ ys) is.are ∙ append_assoc is.front (x ∷ is.back) ys;
}

pub among_right : {A : Type 0} (xs ys : List A) (x : A) → IsAmong ys x → IsAmong (xs ++ ys) x
among_right xs ys x is = record {
  front = xs ++ is.front;
  back = is.back;
  are = ap (λ l. xs ++ l) is.are ∙ sym (append_assoc xs is.front (x ∷ is.back));
}

pub among_first : {A : Type 0} (x : A) (xs : List A) → IsAmong (x ∷ xs) x
among_first x xs = record { front = []; back = xs; are = refl }

pub among_behind : {A : Type 0} (y : A) (xs : List A) (x : A) → IsAmong xs x → IsAmong (y ∷ xs) x
among_behind y xs x is = record {
  front = y ∷ is.front;
  back = is.back;
  are = ap (λ l. y ∷ l) is.are;
}

head_same : {A : Type 0} (x y : A) (xs ys : List A) → x ∷ xs ≡ y ∷ ys → x ≡ y
head_same x y xs ys e = cc

tail_same : {A : Type 0} (x y : A) (xs ys : List A) → x ∷ xs ≡ y ∷ ys → xs ≡ ys
tail_same x y xs ys e = cc

pub among_none : {A : Type 0} (x : A) → IsAmong [] x → ⊥
among_none {A = A} x is = go is.front is.are
  where
    go : (front : List A) → [] ≡ front ++ x ∷ is.back → ⊥
    go [] e = absurd (cc)
    go (y ∷ front) e = absurd (cc)

pub among_split : {A : Type 0} (y : A) (xs : List A) (x : A) → IsAmong (y ∷ xs) x → (x ≡ y) ⊎ IsAmong xs x
among_split {A = A} y xs x is = go is.front is.are
  where
    go : (front : List A) → y ∷ xs ≡ front ++ x ∷ is.back → (x ≡ y) ⊎ IsAmong xs x
    go [] e = inl (sym (head_same y x xs is.back e))
    go (z ∷ front) e = inr (record { front = front; back = is.back; are = tail_same y z xs (front ++ x ∷ is.back) e })

pub among_one : {A : Type 0} (y x : A) → IsAmong (y ∷ []) x → x ≡ y
among_one y x is = elim (among_split y [] x is) [ inl same ↦ same | inr none ↦ absurd (among_none x none) ]

pub among_append : {A : Type 0} (xs ys : List A) (x : A) → IsAmong (xs ++ ys) x → IsAmong xs x ⊎ IsAmong ys x
among_append [] ys x is = inr is
among_append (y ∷ xs) ys x is = elim (among_split y (xs ++ ys) x is) [
  | inl same ↦ inl (subst (λ z. IsAmong (y ∷ xs) z) (sym same) (among_first y xs))
  | inr there ↦ elim (among_append xs ys x there) [
    | inl left ↦ inl (among_behind y xs x left)
    | inr right ↦ inr right
  ]
]

-- what one of these adds
pub record IsOfOne {A B : Type 0} (f : A → List B) (xs : List A) (y : B) : Type 0 where
  pub one : A
  pub here : IsAmong xs one
  pub of_it : IsAmong (f one) y

pub flat_among : {A B : Type 0} (f : A → List B) (xs : List A) (y : B) → IsAmong (flat_map f xs) y → IsOfOne f xs y
flat_among f [] y is = absurd (among_none y is)
flat_among f (x ∷ xs) y is = elim (among_append (f x) (flat_map f xs) y is) [
  | inl own ↦ record { one = x; here = among_first x xs; of_it = own }
  | inr there ↦ (let r = flat_among f xs y there in record {
    one = r.one;
    here = among_behind x xs r.one r.here;
    of_it = r.of_it;
  })
]

pub among_flat : {A B : Type 0} (f : A → List B) (xs : List A) (x : A) (y : B) → IsAmong xs x → IsAmong (f x) y
    → IsAmong (flat_map f xs) y
among_flat {A = A} f xs x y here of_it =
    subst (λ l. IsAmong (flat_map f l) y) (sym here.are) (go here.front)
  where
    go : (front : List A) → IsAmong (flat_map f (front ++ x ∷ here.back)) y
    go [] = among_left (f x) (flat_map f here.back) y of_it
    go (z ∷ front) = among_right (f z) (flat_map f (front ++ x ∷ here.back)) y (go front)

pub option_among : {A : Type 0} (o : Option A) (x : A) → IsAmong (option_to_list o) x → o ≡ Some x
option_among None x is = absurd (among_none x is)
option_among (Some y) x is = ap Some (sym (among_one y x is))

pub among_option : {A : Type 0} (o : Option A) (x : A) → o ≡ Some x → IsAmong (option_to_list o) x
among_option o x e = subst (λ p. IsAmong (option_to_list p) x) (sym e) (among_first x [])

at_or_past : (k start : ℕ) → start ≤ k → (k ≡ start) ⊎ (suc start ≤ k)
at_or_past zero zero from = inl refl
at_or_past zero (suc start) from = absurd (omega (arith, from))
at_or_past (suc k) zero from = inr (omega arith)
at_or_past (suc k) (suc start) from = elim (at_or_past k start (omega (arith, from))) [
  | inl same ↦ inl (ap suc same)
  | inr past ↦ inr (omega (arith, past))
]

-- each number below the end
pub among_range : (start count k : ℕ) → start ≤ k → k < start + count → IsAmong (range_with_len start count) k
among_range start zero k from below = absurd (omega (arith, from, below))
among_range start (suc count) k from below = elim (at_or_past k start from) [
  | inl same ↦ subst (λ z. IsAmong (range_with_len start (suc count)) z) (sym same)
      (among_first start (range_with_len (start + 1) count))
  | inr past ↦ among_behind start (range_with_len (start + 1) count) k
      (among_range (start + 1) count k (omega (arith, past)) (omega (arith, below)))
]

-- ---- what each step adds

record IsAddedBehind {A : Type 0} (adds : List Deed → Deed → List A) (first deeds : List Deed) (x : A) : Type 0 where
  before : List Deed
  deed : Deed
  after : List Deed
  all : deeds ≡ before ++ deed ∷ after
  added : IsAmong (adds (first ++ before) deed) x

behind : {A : Type 0} (adds : List Deed → Deed → List A) (first deeds : List Deed) (x : A)
    → IsAmong (each_after adds first deeds) x → IsAddedBehind adds first deeds x
behind adds first [] x is = absurd (among_none x is)
behind adds first (d ∷ ds) x is = elim (among_append (adds first d) (each_after adds (first ++ d ∷ []) ds) x is) [
  | inl here ↦ record {
    before = [];
    deed = d;
    after = ds;
    all = refl;
    added = subst (λ front. IsAmong (adds front d) x) (sym (append-nil first)) here;
  }
  | inr there ↦ (let r = behind adds (first ++ d ∷ []) ds x there in record {
    before = d ∷ r.before;
    deed = r.deed;
    after = r.after;
    all = ap (λ l. d ∷ l) r.all;
    added = subst (λ front. IsAmong (adds front r.deed) x) (append_assoc first (d ∷ []) r.before) r.added;
  })
]

known : {A : Type 0} (adds : List Deed → Deed → List A) (first before after : List Deed) (d : Deed) (x : A)
    → IsAmong (adds (first ++ before) d) x → IsAmong (each_after adds first (before ++ d ∷ after)) x
known adds first [] after d x is =
    among_left (adds first d) (each_after adds (first ++ d ∷ []) after) x
    (subst (λ front. IsAmong (adds front d) x) (append-nil first) is)
known adds first (e ∷ before) after d x is =
    among_right (adds first e) (each_after adds (first ++ e ∷ []) (before ++ d ∷ after)) x
    (known adds (first ++ e ∷ []) before after d x
    (subst (λ front. IsAmong (adds front d) x) (sym (append_assoc first (e ∷ []) before)) is))

pub added_by : {A : Type 0} (adds : List Deed → Deed → List A) (deeds : List Deed) (x : A)
    → IsAmong (each_after adds [] deeds) x → IsAdded adds deeds x
added_by adds deeds x is = let r = behind adds [] deeds x is in record {
  before = r.before;
  deed = r.deed;
  after = r.after;
  all = r.all;
  added = r.added;
}

pub by_added : {A : Type 0} (adds : List Deed → Deed → List A) (deeds : List Deed) (x : A)
    → IsAdded adds deeds x → IsAmong (each_after adds [] deeds) x
by_added adds deeds x is =
    subst (λ l. IsAmong (each_after adds [] l) x) (sym is.all)
    (known adds [] is.before is.after is.deed x is.added)
