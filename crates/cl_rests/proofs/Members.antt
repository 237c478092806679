-- Sets of ranks, bit by bit.
use Rattle.std.specs.Prelude.{ℕ, zero, suc, ◌+◌, ◌<◌, ◌≤◌, ◌≡◌, ◌==◌, ◌&&◌, ◌||◌, ◌^◌, ◌*◌, ◌/◌, ◌%◌, min, max, nat_eq, nat_lt, not, Bool, true, false}
use Rattle.std.proofs.Common.{refl, sym, ap, ◌∙◌, subst, arith, inl, inr}
use Rattle.std.proofs.lemmas.Bool.{cases_eq, cases_lt, cases_order, eq-eqb, eqb-true, le-ltb, lt-ltb, ne_eqb}
use Rattle.std.proofs.lemmas.Nat.{and_le_l}
use Rattle.std.proofs.lemmas.Nat.Bits.{bit_at-lt, bit_at-zero, bit_at_and, bit_at_clear_other, bit_at_clear_same, bit_at_or, bit_at_set_other, bit_at_set_same, same_from_bits_below, shr_and_one}
use Rattle.std.specs.Int.{bit_at, bit_not, w8}
use Rattle.std.specs.Int.RustNames.{bit_or}
use Rattle.std.specs.Int.Bits.{bit_and}
use Rattle.cl_rests.specs.Sets.{in_set}

-- ---- bits

both : (t : Bool) (x y : ℕ) → x < 2 → y < 2 → (t && (min x y == 1)) ≡ ((t && (x == 1)) && (t && (y == 1)))
both false x y low less = refl
both true zero zero low less = refl
both true zero (suc zero) low less = refl
both true zero (suc (suc y)) low less = absurd (omega (arith, less))
both true (suc zero) zero low less = refl
both true (suc zero) (suc zero) low less = refl
both true (suc zero) (suc (suc y)) low less = absurd (omega (arith, less))
both true (suc (suc x)) y low less = absurd (omega (arith, low))

either : (t : Bool) (x y : ℕ) → x < 2 → y < 2 → (t && (max x y == 1)) ≡ ((t && (x == 1)) || (t && (y == 1)))
either false x y low less = refl
either true zero zero low less = refl
either true zero (suc zero) low less = refl
either true zero (suc (suc y)) low less = absurd (omega (arith, less))
either true (suc zero) zero low less = refl
either true (suc zero) (suc zero) low less = refl
either true (suc zero) (suc (suc y)) low less = absurd (omega (arith, less))
either true (suc (suc x)) y low less = absurd (omega (arith, low))

-- a bit is 1 or isn't, as its rank is in the set or not
same_bit : (x y : ℕ) → x < 2 → y < 2 → (x == 1) ≡ (y == 1) → x ≡ y
same_bit zero zero low less is = refl
same_bit zero (suc zero) low less is = absurd (cc)
same_bit zero (suc (suc y)) low less is = absurd (omega (arith, less))
same_bit (suc zero) zero low less is = absurd (cc)
same_bit (suc zero) (suc zero) low less is = refl
same_bit (suc zero) (suc (suc y)) low less is = absurd (omega (arith, less))
same_bit (suc (suc x)) y low less is = absurd (omega (arith, low))

-- ---- sets

pub meet_in : (a b r : ℕ) → in_set (bit_and a b) r ≡ in_set a r && in_set b r
unfolding in_set
meet_in a b r =
    ap (λ n. nat_lt r 8 && (n == 1)) (bit_at_and a b r)
    ∙ both (nat_lt r 8) (bit_at a r) (bit_at b r) (bit_at-lt a r) (bit_at-lt b r)

pub join_in : (a b r : ℕ) → in_set (bit_or a b) r ≡ in_set a r || in_set b r
unfolding in_set
join_in a b r =
    ap (λ n. nat_lt r 8 && (n == 1)) (bit_at_or a b r)
    ∙ either (nat_lt r 8) (bit_at a r) (bit_at b r) (bit_at-lt a r) (bit_at-lt b r)

pub none_in : (r : ℕ) → in_set 0 r ≡ false
unfolding in_set
none_in r = ap (λ n. nat_lt r 8 && (n == 1)) (bit_at-zero r) ∙ never (nat_lt r 8)
  where
    never : (t : Bool) → (t && false) ≡ false
    never true = refl
    never false = refl

-- no rank from 8 on is in a set
pub past_in : (a r : ℕ) → 8 ≤ r → in_set a r ≡ false
unfolding in_set
past_in a r past = ap (λ t. t && (bit_at a r == 1)) (le-ltb r 8 past)

-- a set is known by its members
pub same_set : (a b : ℕ) → a < 256 → b < 256 → ((r : ℕ) → in_set a r ≡ in_set b r) → a ≡ b
unfolding in_set
same_set a b low less same = same_from_bits_below 8 a b (omega (arith, low)) (omega (arith, less)) (λ i inside.
    let t = lt-ltb i 8 inside in
    same_bit (bit_at a i) (bit_at b i) (bit_at-lt a i) (bit_at-lt b i)
    (subst (λ t. (t && (bit_at a i == 1)) ≡ (t && (bit_at b i == 1))) t (same i)))

pub has_in : (a r : ℕ) → r < 8 → nat_eq (bit_and (a / 2 ^ r) 1) 1 ≡ in_set a r
unfolding in_set
has_in a r low =
    ap (λ n. nat_eq n 1) (shr_and_one a r) ∙ sym (ap (λ t. t && (bit_at a r == 1)) (lt-ltb r 8 low))

-- ---- one rank more, or less

or_true : (b : Bool) → (b || true) ≡ true
or_true true = refl
or_true false = refl

pub or_false : (b : Bool) → (b || false) ≡ b
or_false true = refl
or_false false = refl

and_true : (b : Bool) → (b && true) ≡ b
and_true true = refl
and_true false = refl

and_false : (b : Bool) → (b && false) ≡ false
and_false true = refl
and_false false = refl

pub with_in : (a k : ℕ) → k < 8 → (r : ℕ)
    → in_set (bit_or a (1 * 2 ^ k % 2 ^ 8)) r ≡ in_set a r || ((r == k) && nat_lt k 8)
unfolding in_set
with_in a k low r = elim (cases_eq r k) [
  | inl same ↦ subst (λ i. in_set (bit_or a (1 * 2 ^ k % 2 ^ 8)) i ≡ in_set a i || ((i == k) && nat_lt k 8)) (sym same)
      (ap (λ t. t && (bit_at (bit_or a (1 * 2 ^ k % 2 ^ 8)) k == 1)) (lt-ltb k 8 low)
      ∙ (ap (λ n. n == 1) (bit_at_set_same w8 a k low)
      ∙ (sym (or_true (in_set a k)) ∙ ap (λ t. in_set a k || t)
      (sym (ap (λ t. t && nat_lt k 8) (eq-eqb k k refl) ∙ lt-ltb k 8 low)))))
  | inr other ↦
      ap (λ n. nat_lt r 8 && (n == 1)) (bit_at_set_other w8 a k low r other)
      ∙ (sym (or_false (in_set a r)) ∙ ap (λ t. in_set a r || (t && nat_lt k 8)) (sym (ne_eqb r k other)))
]

-- none from 8 on
pub with_past : (a k : ℕ) → 8 ≤ k → (r : ℕ) → in_set a r ≡ in_set a r || ((r == k) && nat_lt k 8)
with_past a k past r =
    sym (ap (λ t. in_set a r || ((r == k) && t)) (le-ltb k 8 past)
    ∙ (ap (λ t. in_set a r || t) (and_false (r == k)) ∙ or_false (in_set a r)))

pub without_in : (a k : ℕ) → k < 8 → (r : ℕ)
    → in_set (bit_and a (bit_not w8 (1 * 2 ^ k % 2 ^ 8))) r ≡ in_set a r && not (r == k)
unfolding in_set
without_in a k low r = elim (cases_eq r k) [
  | inl same ↦ subst (λ i. in_set (bit_and a (bit_not w8 (1 * 2 ^ k % 2 ^ 8))) i ≡ in_set a i && not (i == k)) (sym same)
      (ap (λ n. nat_lt k 8 && (n == 1)) (bit_at_clear_same w8 a k low)
      ∙ (and_false (nat_lt k 8)
      ∙ sym (ap (λ t. in_set a k && not t) (eq-eqb k k refl) ∙ and_false (in_set a k))))
  | inr other ↦ elim (cases_lt r 8) [
    | inl less ↦
        ap (λ n. nat_lt r 8 && (n == 1)) (bit_at_clear_other w8 a k low r less other)
        ∙ (sym (and_true (in_set a r)) ∙ ap (λ t. in_set a r && not t) (sym (ne_eqb r k other)))
    | inr past ↦
        past_in (bit_and a (bit_not w8 (1 * 2 ^ k % 2 ^ 8))) r past
        ∙ sym (ap (λ t. t && not (r == k)) (past_in a r past))
  ]
]

-- none from 8 on was in the set
pub without_past : (a k : ℕ) → 8 ≤ k → (r : ℕ) → in_set a r ≡ in_set a r && not (r == k)
without_past a k past r = elim (cases_eq r k) [
  | inl same ↦
      let none = subst (λ i. in_set a i ≡ false) (sym same) (past_in a k past) in
      none ∙ sym (ap (λ t. t && not (r == k)) none)
  | inr other ↦ sym (and_true (in_set a r)) ∙ ap (λ t. in_set a r && not t) (sym (ne_eqb r k other))
]

-- ---- a set within another

-- where both have the same as the one, the one is within the other
within_of : (a b : ℕ) → bit_and a b ≡ a → (r : ℕ) → in_set a r ≡ true → in_set b r ≡ true
within_of a b is r has =
    right (in_set a r) (in_set b r) (sym (meet_in a b r) ∙ (ap (λ s. in_set s r) is ∙ has))
  where
    right : (s t : Bool) → (s && t) ≡ true → t ≡ true
    right true t e = e
    right false t e = absurd (cc)

of_within : (a b : ℕ) → a < 256 → ((r : ℕ) → in_set a r ≡ true → in_set b r ≡ true) → bit_and a b ≡ a
of_within a b low within = same_set (bit_and a b) a (let less = and_le_l a b in omega (arith, less, low)) low (λ r.
    meet_in a b r ∙ left (in_set a r) (in_set b r) (within r))
  where
    left : (s t : Bool) → (s ≡ true → t ≡ true) → (s && t) ≡ s
    left true t is = is refl
    left false t is = refl

-- by the bits of the sets that these are
abbrev pub Within : ℕ → ℕ → Type 0
Within s t = (r : ℕ) → in_set s r ≡ true → in_set t r ≡ true

pub within_both : (a b s t : ℕ) → a ≡ s → b ≡ t → a < 256
    → (nat_eq (bit_and a b) a ≡ true → Within s t) × (Within s t → nat_eq (bit_and a b) a ≡ true)
within_both a b s t one other low = (
  λ is. subst (λ x. Within x t) one (subst (Within a) other (within_of a b (eqb-true (bit_and a b) a is))),
  λ within.
      eq-eqb (bit_and a b) a
      (of_within a b low (subst (λ x. Within x b) (sym one) (subst (Within s) (sym other) within))),
)

-- ---- the empty set

abbrev pub Empty : ℕ → Type 0
Empty s = (r : ℕ) → in_set s r ≡ false

empty_of : (a : ℕ) → a ≡ 0 → Empty a
empty_of a is r = ap (λ s. in_set s r) is ∙ none_in r

of_empty : (a : ℕ) → a < 256 → Empty a → a ≡ 0
of_empty a low none = same_set a 0 low (omega arith) (λ r. none r ∙ sym (none_in r))

pub empty_both : (a s : ℕ) → a ≡ s → a < 256 → (nat_eq a 0 ≡ true → Empty s) × (Empty s → nat_eq a 0 ≡ true)
empty_both a s one low = (
  λ is. subst Empty one (empty_of a (eqb-true a 0 is)),
  λ none. eq-eqb a 0 (of_empty a low (subst Empty (sym one) none)),
)

-- ---- rank after rank

-- one more rank was asked
module _ (found : ℕ → Bool) (set new rank : ℕ) (b : Bool) (low : rank < 8) (is : b ≡ found rank)
    (before : (r : ℕ) → in_set set r ≡ nat_lt r rank && found r)
    (goes : (r : ℕ) → in_set new r ≡ in_set set r || (b && ((r == rank) && nat_lt rank 8))) where
  at_rank : in_set new rank ≡ nat_lt rank (rank + 1) && found rank
  at_rank =
      goes rank
      ∙ (ap (λ t. t || (b && ((rank == rank) && nat_lt rank 8)))
      (before rank ∙ ap (λ t. t && found rank) (le-ltb rank rank (omega arith)))
      ∙ (ap (λ t. b && (t && nat_lt rank 8)) (eq-eqb rank rank refl)
      ∙ (ap (λ t. b && t) (lt-ltb rank 8 low)
      ∙ (and_true b ∙ (is ∙ ap (λ t. t && found rank) (sym (lt-ltb rank (rank + 1) (omega arith))))))))

  beside : (r : ℕ) → (r ≡ rank → ⊥) → in_set new r ≡ nat_lt r rank && found r
  beside r other =
      goes r
      ∙ (ap (λ t. in_set set r || (b && (t && nat_lt rank 8))) (ne_eqb r rank other)
      ∙ (ap (λ t. in_set set r || t) (and_false b) ∙ (or_false (in_set set r) ∙ before r)))

  pub one_rank : (r : ℕ) → in_set new r ≡ nat_lt r (rank + 1) && found r
  one_rank r = elim (cases_order r rank) [
    | inl same ↦ subst (λ i. in_set new i ≡ nat_lt i (rank + 1) && found i) (sym same) at_rank
    | inr apart ↦ elim apart [
      | inl less ↦
          beside r (λ e. omega (arith, e, less))
          ∙ ap (λ t. t && found r) (lt-ltb r rank less ∙ sym (lt-ltb r (rank + 1) (omega (arith, less))))
      | inr more ↦
          beside r (λ e. omega (arith, e, more))
          ∙ ap (λ t. t && found r)
          (le-ltb r rank (omega (arith, more)) ∙ sym (le-ltb r (rank + 1) (omega (arith, more))))
    ]
  ]

-- all were, and there are none from 8 on
pub all_ranks : (found : ℕ → Bool) (set count : ℕ) → 8 ≤ count → ((r : ℕ) → in_set set r ≡ nat_lt r count && found r)
    → ((r : ℕ) → 8 ≤ r → found r ≡ false) → (r : ℕ) → in_set set r ≡ found r
all_ranks found set count enough before none r = elim (cases_lt r 8) [
  | inl less ↦ before r ∙ ap (λ t. t && found r) (lt-ltb r count (omega (arith, less, enough)))
  | inr past ↦ past_in set r past ∙ sym (none r past)
]
