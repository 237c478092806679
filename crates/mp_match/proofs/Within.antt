-- Accepted messages stand between the first key of their rank and communicator and the next communicator's.
use Rattle.std.specs.Prelude.{ℕ, ◌+◌, ◌≡◌, ◌==◌, ◌&&◌, not, Bool, true, false, cond, List, [], ◌∷◌, Option, Some, None}
use Rattle.std.specs.Prelude.{slice_get}
use Rattle.std.specs.List.{filter}
use Rattle.std.specs.Ordering.{is_gt, is_le, nat_cmp, ordering_then}
use Rattle.std.specs.Option.{option_cmp}
use Rattle.std.specs.Cmp.{nat_cmp_is}
use Rattle.std.specs.BTreeMap.Range.{range_contains, entries_between}
use Rattle.std.specs.declared.cmp.Ordering.{Ordering}
use Rattle.std.specs.declared.cmp.Ordering.TheVariants.{Less, Equal, Greater}
use Rattle.std.specs.declared.ops.Bound.TheVariants.{Included, Excluded, Unbounded}
use Rattle.std.proofs.Common.{refl, sym, ap, ◌∙◌, arith}
use Rattle.std.proofs.lemmas.Bool.{and_parts, and_from, eqb-true}
use Rattle.mp_match.specs.declared.posts.Selection.{Selection}
use Rattle.mp_match.specs.Queued.{selection_cmp}
use Rattle.mp_match.specs.InnerQueued.{Entry, least, least_accepted, admits_key, accepts_key}
use Rattle.mp_match.specs.InnerQueued.{first_key, next_key}

-- what isn't accepted may be left out
left_out : (a : Selection) (t : Entry → Bool) → ((e : Entry) → accepts_key a e.0 ≡ true → t e ≡ true)
    → (o : Option ℕ) (es : List Entry) → least_accepted a o (filter t es) ≡ least_accepted a o es
left_out a t within o [] = refl
left_out a t within o (e ∷ es) = go (t e) refl (accepts_key a e.0) refl (λ p. left_out a t within p es)
  where
    go : (b : Bool) → t e ≡ b → (d : Bool) → accepts_key a e.0 ≡ d
        → ((p : Option ℕ) → least_accepted a p (filter t es) ≡ least_accepted a p es)
        → least_accepted a o (cond b (e ∷ filter t es) (filter t es))
        ≡ least_accepted a (cond (accepts_key a e.0) (least o (slice_get (e.1).items 0)) o) es
    go true h d k rec = rec (cond (accepts_key a e.0) (least o (slice_get (e.1).items 0)) o)
    go false h true k rec = (let g = within e k in absurd (cc))
    go false h false k rec =
        rec o ∙ ap (λ d. least_accepted a (cond d (least o (slice_get (e.1).items 0)) o) es) (sym k)

same_cmp : (x y : ℕ) → x ≡ y → nat_cmp y x ≡ Equal
same_cmp x y e = sym (nat_cmp_is y x Equal (sym e))

from_first : (c d : Ordering) (wanted source : Option ℕ) (rest : Ordering) → c ≡ Equal → d ≡ Equal
    → admits_key wanted source ≡ true
    → is_le (ordering_then c (ordering_then d (ordering_then (option_cmp nat_cmp None source) rest))) ≡ true
from_first c d wanted None rest p q h = absurd (cc)
from_first c d wanted (Some x) rest p q h = (
    λ i. is_le (ordering_then (p i) (ordering_then (q i) (ordering_then (option_cmp nat_cmp None (Some x)) rest)))
    )

before_next : (c d rest : Ordering) → c ≡ Equal → d ≡ Greater
    → not (is_le (ordering_then c (ordering_then d rest))) ≡ true
before_next c d rest p q = (λ i. not (is_le (ordering_then (p i) (ordering_then (q i) rest))))

module _ (a k : Selection) (h : accepts_key a k ≡ true) where
  parts : (k.rank ≡ a.rank) × (k.comm ≡ a.comm) × (admits_key a.source k.source ≡ true)
  parts =
      let w = and_parts (((k.rank == a.rank) && (k.comm == a.comm)) && admits_key a.source k.source)
      (admits_key a.tag k.tag) h in
      let v = and_parts ((k.rank == a.rank) && (k.comm == a.comm)) (admits_key a.source k.source) w.0 in
      let u = and_parts (k.rank == a.rank) (k.comm == a.comm) v.0 in
      (eqb-true k.rank a.rank u.0, eqb-true k.comm a.comm u.1, v.1)

  after : range_contains selection_cmp (Included (first_key a)) Unbounded k ≡ true
  after =
      let p = parts in
      and_from _ true (from_first _ _ a.source k.source _ (same_cmp k.rank a.rank p.0) (same_cmp k.comm a.comm p.1) p.2)
      refl

  between : range_contains selection_cmp (Included (first_key a)) (Excluded (next_key a)) k ≡ true
  between =
      let p = parts in
      let more : nat_cmp (a.comm + 1) k.comm ≡ Greater =
      sym (nat_cmp_is (a.comm + 1) k.comm Greater (let e = p.1 in omega (arith, e))) in
      and_from _ _
      (from_first _ _ a.source k.source _ (same_cmp k.rank a.rank p.0) (same_cmp k.comm a.comm p.1) p.2)
      (before_next _ _ _ (same_cmp k.rank a.rank p.0) more)

pub least_after : (a : Selection) (es : List Entry)
    → least_accepted a None (entries_between selection_cmp (Included (first_key a)) Unbounded es)
    ≡ least_accepted a None es
least_after a es =
    left_out a (λ e. range_contains selection_cmp (Included (first_key a)) Unbounded e.0) (λ e h. after a e.0 h) None es

pub least_between : (a : Selection) (es : List Entry)
    → least_accepted a None (entries_between selection_cmp (Included (first_key a)) (Excluded (next_key a)) es)
    ≡ least_accepted a None es
least_between a es =
    left_out a (λ e. range_contains selection_cmp (Included (first_key a)) (Excluded (next_key a)) e.0)
    (λ e h. between a e.0 h) None es

-- the first key is before the next communicator's
pub first_below : (a : Selection) → is_gt (selection_cmp (first_key a) (next_key a)) ≡ false
first_below a =
    let p = same_cmp a.rank a.rank refl in
    let q : nat_cmp a.comm (a.comm + 1) ≡ Less = sym (nat_cmp_is a.comm (a.comm + 1) Less (omega arith)) in (
    λ i. is_gt (ordering_then (p i) (ordering_then (q i)
    (ordering_then (option_cmp nat_cmp None None) (option_cmp nat_cmp None None))))
    )
