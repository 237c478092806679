-- Keys of queues.
use Rattle.std.specs.Prelude.{ℕ, ◌≡◌, ◌==◌, ◌&&◌, true, Option, Some, None}
use Rattle.std.specs.Ordering.{is_eq, nat_cmp, ordering_then}
use Rattle.std.specs.Option.{option_cmp}
use Rattle.std.specs.Cmp.{unsigned_ties}
use Rattle.std.specs.declared.cmp.Ordering.{Ordering}
use Rattle.std.specs.declared.cmp.Ordering.TheVariants.{Less, Equal, Greater}
use Rattle.std.proofs.Common.{refl, sym, ap, ◌∙◌}
use Rattle.std.proofs.lemmas.Bool.{cases_eq, and_parts, and_from, eqb-true, eq-eqb, ne_eqb}
use mathlib.Core.Logic.{inl, inr}
use Rattle.mp_match.specs.declared.posts.Selection.{Selection}
use Rattle.mp_match.specs.Waiting.{same_option, same_key, is_key}
use Rattle.mp_match.specs.Queued.{selection_cmp}

-- ---- one way and the other

eqb_flip : (a b : ℕ) → (a == b) ≡ (b == a)
eqb_flip a b = elim (cases_eq a b) [
  | inl e ↦ (λ i. (e i) == (sym e i))
  | inr n ↦ ne_eqb a b n ∙ sym (ne_eqb b a (λ e. n (sym e)))
]

option_flip : (a b : Option ℕ) → same_option a b ≡ same_option b a
option_flip None None = refl
option_flip None (Some y) = refl
option_flip (Some x) None = refl
option_flip (Some x) (Some y) = eqb_flip x y

pub key_flip : (k a : Selection) → same_key k a ≡ same_key a k
key_flip k a = (
    λ i. eqb_flip k.rank a.rank i
    && (eqb_flip k.comm a.comm i && (option_flip k.source a.source i && option_flip k.tag a.tag i))
    )

-- ---- the same key

option_same : (a b : Option ℕ) → same_option a b ≡ true → a ≡ b
option_same None None h = refl
option_same None (Some y) h = absurd (cc)
option_same (Some x) None h = absurd (cc)
option_same (Some x) (Some y) h = ap (λ n. Some n) (eqb-true x y h)

pub key_same : (k a : Selection) → same_key k a ≡ true → k ≡ a
key_same k a h =
    let w = and_parts (k.rank == a.rank) _ h in
    let x = and_parts (k.comm == a.comm) (same_option k.source a.source && same_option k.tag a.tag) w.1 in
    let y = and_parts (same_option k.source a.source) (same_option k.tag a.tag) x.1 in
    let r = eqb-true k.rank a.rank w.0 in
    let c = eqb-true k.comm a.comm x.0 in
    let s = option_same k.source a.source y.0 in
    let t = option_same k.tag a.tag y.1 in
    λ i. record { rank = r i; comm = c i; source = s i; tag = t i }

pub is_key_some : (k : Selection) (o : Option Selection) → is_key k o ≡ true → o ≡ Some k
is_key_some k None h = absurd (cc)
is_key_some k (Some q) h = ap (λ (z : Selection). Some z) (sym (key_same k q h))

option_refl : (o : Option ℕ) → same_option o o ≡ true
option_refl None = refl
option_refl (Some x) = eq-eqb x x refl

pub key_refl : (k : Selection) → same_key k k ≡ true
key_refl k =
    and_from _ _ (eq-eqb k.rank k.rank refl)
    (and_from _ _ (eq-eqb k.comm k.comm refl) (and_from _ _ (option_refl k.source) (option_refl k.tag)))

-- ---- the order of keys tells the same ones

eq_then : (a b : Ordering) → is_eq (ordering_then a b) ≡ (is_eq a && is_eq b)
eq_then Less b = refl
eq_then Equal b = refl
eq_then Greater b = refl

eq_option : (a b : Option ℕ) → is_eq (option_cmp nat_cmp a b) ≡ same_option a b
eq_option None None = refl
eq_option None (Some y) = refl
eq_option (Some x) None = refl
eq_option (Some x) (Some y) = sym (unsigned_ties x y)

cmp_same : (k a : Selection) → is_eq (selection_cmp k a) ≡ same_key k a
cmp_same k a =
    eq_then (nat_cmp k.rank a.rank) _
    ∙ (
    λ i. sym (unsigned_ties k.rank a.rank) i
    && (eq_then (nat_cmp k.comm a.comm)
    (ordering_then (option_cmp nat_cmp k.source a.source) (option_cmp nat_cmp k.tag a.tag)) i)
    )
    ∙ (
    λ i. (k.rank == a.rank)
    && (sym (unsigned_ties k.comm a.comm) i
    && eq_then (option_cmp nat_cmp k.source a.source) (option_cmp nat_cmp k.tag a.tag) i)
    )
    ∙ (
    λ i. (k.rank == a.rank)
    && ((k.comm == a.comm) && (eq_option k.source a.source i && eq_option k.tag a.tag i))
    )

pub cmp_is : (k a : Selection) → is_eq (selection_cmp k a) ≡ same_key a k
cmp_is k a = cmp_same k a ∙ key_flip k a
