-- Partners after a post that has this partner, and after two posts were joined.
use Rattle.std.specs.Prelude.{ℕ, zero, suc, ◌<◌, ◌≡◌, List, [], ◌∷◌, ◌++◌, length, Option, Some, None}
use Rattle.std.specs.List.{slice_get}
use Rattle.std.proofs.Common.{refl, sym, ap, ◌∙◌, subst, arith}
use Rattle.std.proofs.lemmas.Bool.{cases_eq}
use mathlib.Core.Logic.{inl, inr}
use Rattle.mp_match.specs.declared.posts.Post.{Post}
use Rattle.mp_match.specs.declared.posts.Line.{Line}
use Rattle.mp_match.specs.Pairs.{partner_at, partner_of_line, partner_set, partners_set, partners_told}
use Rattle.mp_match.specs.PostPairs.{posts_of}
use Rattle.mp_match.proofs.Places.{get_front, get_last, get_snoc, get_within}
use Rattle.mp_match.proofs.Lines.{set_back, set_length, set_other, told_length}
use Rattle.mp_match.proofs.OrderKept.{partner_line}
use Rattle.mp_way_laws.specs.Way.{add_with, joined}

-- ---- the posts stay

pub posts_set : (ms : List Line) (q k : ℕ) → posts_of (partner_set ms q k) ≡ posts_of ms
posts_set [] q k = refl
posts_set (m ∷ ms) zero k = refl
posts_set (m ∷ ms) (suc q) k = ap (λ l. m.post ∷ l) (posts_set ms q k)

pub posts_sets : (ms : List Line) (o : Option ℕ) (k : ℕ) → posts_of (partners_set ms o k) ≡ posts_of ms
posts_sets ms None k = refl
posts_sets ms (Some q) k = posts_set ms q k

posts_snoc : (ms : List Line) (m : Line) → posts_of (ms ++ m ∷ []) ≡ posts_of ms ++ m.post ∷ []
posts_snoc [] m = refl
posts_snoc (x ∷ ms) m = ap (λ l. x.post ∷ l) (posts_snoc ms m)

pub posts_with : (ms : List Line) (p : Post) (o : Option ℕ) → posts_of (add_with ms p o) ≡ posts_of ms ++ p ∷ []
posts_with ms p o =
    posts_snoc (partners_told ms o) (record { post = p; partner = o })
    ∙ ap (λ l. l ++ p ∷ []) (posts_sets ms o (length ms))

pub posts_joined : (ms : List Line) (u : ℕ) (o : Option ℕ) → posts_of (joined ms u o) ≡ posts_of ms
posts_joined ms u None = refl
posts_joined ms u (Some q) = posts_set (partner_set ms q u) u q ∙ posts_set ms q u

pub posts_length : (ms : List Line) → length (posts_of ms) ≡ length ms
posts_length [] = refl
posts_length (m ∷ ms) = ap suc (posts_length ms)

-- ---- partners at places

pub partner_within : (ms : List Line) (i j : ℕ) → partner_at ms i ≡ Some j → i < length ms
partner_within ms i j h = (let l = partner_line ms i j h in get_within ms i l.0 l.1)

set_at : (ms : List Line) (q k : ℕ) → q < length ms → partner_at (partner_set ms q k) q ≡ Some k
set_at [] q k h = absurd (omega (arith, h))
set_at (m ∷ ms) zero k h = refl
set_at (m ∷ ms) (suc q) k h = set_at ms q k (omega (arith, h))

set_apart : (ms : List Line) (q k i : ℕ) → (q ≡ i → ⊥) → partner_at (partner_set ms q k) i ≡ partner_at ms i
set_apart ms q k i h = ap partner_of_line (set_other ms q k i h)

front_at : (ms : List Line) (y : Line) (i j : ℕ) → partner_at ms i ≡ Some j → partner_at (ms ++ y ∷ []) i ≡ Some j
front_at ms y i j h =
    let l = partner_line ms i j h in ap partner_of_line (get_front ms (y ∷ []) i l.0 l.1) ∙ l.2

-- ---- a post more

-- what a post's partner is after one more, which has the partner o
pub data Look (ms : List Line) (o : Option ℕ) (i j : ℕ) : Type 0 where
  is_new : i ≡ length ms → o ≡ Some j → Look ms o i j
  is_given : o ≡ Some i → j ≡ length ms → Look ms o i j
  is_old : partner_at ms i ≡ Some j → Look ms o i j

pub look : (ms : List Line) (p : Post) (o : Option ℕ) (i j : ℕ) → partner_at (add_with ms p o) i ≡ Some j
    → Look ms o i j
look ms p o i j h =
    let l = partner_line (add_with ms p o) i j h in
    elim (get_snoc (partners_told ms o) (record { post = p; partner = o }) i l.0 l.1) [
      | inl c ↦ is_new (c.0 ∙ told_length ms o) (sym (ap (λ (z : Line). z.partner) c.1) ∙ l.2)
      | inr c ↦ old o l.0 c l.2
    ]
  where
    old : (o : Option ℕ) (m : Line) → slice_get (partners_told ms o) i ≡ Some m → m.partner ≡ Some j → Look ms o i j
    old None m c e = is_old (ap partner_of_line c ∙ e)
    old (Some q) m c e = elim (cases_eq q i) [
      | inl same ↦
          let b = set_back ms i (length ms) m
          (subst (λ k. slice_get (partner_set ms k (length ms)) i ≡ Some m) same c) in
          let its : m.partner ≡ Some (length ms) = ap (λ (z : Line). z.partner) b.2 in
          is_given (ap (λ k. Some k) same) (cc)
      | inr other ↦ is_old (sym (set_apart ms q (length ms) i other) ∙ ap partner_of_line c ∙ e)
    ]

pub new_at : (ms : List Line) (p : Post) (o : Option ℕ) → partner_at (add_with ms p o) (length ms) ≡ o
new_at ms p o =
    subst (λ n. partner_at (add_with ms p o) n ≡ o) (told_length ms o)
    (ap partner_of_line (get_last (partners_told ms o) (record { post = p; partner = o })))

pub given_at : (ms : List Line) (p : Post) (q : ℕ) → q < length ms
    → partner_at (add_with ms p (Some q)) q ≡ Some (length ms)
given_at ms p q h =
    front_at (partner_set ms q (length ms)) (record { post = p; partner = Some q }) q (length ms)
    (set_at ms q (length ms) h)

pub old_at : (ms : List Line) (p : Post) (o : Option ℕ) (i j : ℕ) → partner_at ms i ≡ Some j → (o ≡ Some i → ⊥)
    → partner_at (add_with ms p o) i ≡ Some j
old_at ms p None i j h other = front_at ms (record { post = p; partner = None }) i j h
old_at ms p (Some q) i j h other =
    front_at (partner_set ms q (length ms)) (record { post = p; partner = Some q }) i j
    (set_apart ms q (length ms) i (λ e. other (ap (λ k. Some k) e)) ∙ h)

-- who has no partner then had none before
pub none_before : (ms : List Line) (p : Post) (o : Option ℕ) (i : ℕ) → partner_at (add_with ms p o) i ≡ None
    → partner_at ms i ≡ None
none_before ms p o i h = go (partner_at ms i) refl
  where
    clash : (x : ℕ) → partner_at ms i ≡ Some x → (q : Option ℕ) → q ≡ o → partner_at ms i ≡ None
    clash x e None at = (let g = old_at ms p None i x e (λ z. absurd (cc)) in
        let f = subst (λ k. partner_at (add_with ms p k) i ≡ Some x) at g in absurd (cc))
    clash x e (Some q) at = elim (cases_eq q i) [
      | inl same ↦
          let g = given_at ms p q (subst (λ k. k < length ms) (sym same) (partner_within ms i x e)) in
          let f = subst (λ k. partner_at (add_with ms p (Some q)) k ≡ Some (length ms)) same g in
          let f2 = subst (λ k. partner_at (add_with ms p k) i ≡ Some (length ms)) at f in absurd (cc)
      | inr other ↦
          let g = old_at ms p (Some q) i x e (λ z. other (cc)) in
          let f = subst (λ k. partner_at (add_with ms p k) i ≡ Some x) at g in absurd (cc)
    ]

    go : (x : Option ℕ) → partner_at ms i ≡ x → partner_at ms i ≡ None
    go None e = e
    go (Some x) e = clash x e o refl

-- and who had none has none, but the one that is given one
pub none_after : (ms : List Line) (p : Post) (o : Option ℕ) (i : ℕ) → i < length ms → partner_at ms i ≡ None
    → (o ≡ Some i → ⊥) → partner_at (add_with ms p o) i ≡ None
none_after ms p o i below none other = go (partner_at (add_with ms p o) i) refl
  where
    clash : (j : ℕ) → Look ms o i j → ⊥
    clash j (is_new e f) = absurd (omega (arith, below, e))
    clash j (is_given e f) = other e
    clash j (is_old e) = absurd (cc)

    go : (x : Option ℕ) → partner_at (add_with ms p o) i ≡ x → partner_at (add_with ms p o) i ≡ None
    go None e = e
    go (Some j) e = absurd (clash j (look ms p o i j e))

-- ---- two posts joined

pub data Met (ms : List Line) (u : ℕ) (o : Option ℕ) (i j : ℕ) : Type 0 where
  is_first : i ≡ u → o ≡ Some j → Met ms u o i j
  is_second : o ≡ Some i → j ≡ u → Met ms u o i j
  was_met : partner_at ms i ≡ Some j → Met ms u o i j

pub met : (ms : List Line) (u : ℕ) (o : Option ℕ) (i j : ℕ) → partner_at (joined ms u o) i ≡ Some j → Met ms u o i j
met ms u None i j h = was_met h
met ms u (Some q) i j h = elim (cases_eq u i) [
  | inl same ↦
      let l = partner_line (partner_set (partner_set ms q u) u q) i j h in
      let b = set_back (partner_set ms q u) i q l.0
      (subst (λ k. slice_get (partner_set (partner_set ms q u) k q) i ≡ Some l.0) same l.1) in
      let its : (l.0).partner ≡ Some q = ap (λ (z : Line). z.partner) b.2 in
      let e = l.2 in
      is_first (sym same) (cc)
  | inr other ↦
      let g : partner_at (partner_set ms q u) i ≡ Some j = sym (set_apart (partner_set ms q u) u q i other) ∙ h in
      elim (cases_eq q i) [
        | inl same ↦
            let l = partner_line (partner_set ms q u) i j g in
            let b = set_back ms i u l.0 (subst (λ k. slice_get (partner_set ms k u) i ≡ Some l.0) same l.1) in
            let its : (l.0).partner ≡ Some u = ap (λ (z : Line). z.partner) b.2 in
            let e = l.2 in
            is_second (ap (λ k. Some k) same) (cc)
        | inr apart ↦ was_met (sym (set_apart ms q u i apart) ∙ g)
      ]
]

pub first_at : (ms : List Line) (u q : ℕ) → u < length ms → partner_at (joined ms u (Some q)) u ≡ Some q
first_at ms u q h =
    set_at (partner_set ms q u) u q (subst (λ n. u < n) (sym (set_length ms q u)) h)

pub second_at : (ms : List Line) (u q : ℕ) → q < length ms → (u ≡ q → ⊥) → partner_at (joined ms u (Some q)) q ≡ Some u
second_at ms u q h apart = set_apart (partner_set ms q u) u q q apart ∙ set_at ms q u h

pub kept_at : (ms : List Line) (u : ℕ) (o : Option ℕ) (i j : ℕ) → partner_at ms i ≡ Some j → (u ≡ i → ⊥)
    → (o ≡ Some i → ⊥) → partner_at (joined ms u o) i ≡ Some j
kept_at ms u None i j h apart other = h
kept_at ms u (Some q) i j h apart other =
    set_apart (partner_set ms q u) u q i apart ∙ set_apart ms q u i (λ e. other (ap (λ k. Some k) e)) ∙ h

-- who has no partner then had none before
pub none_joined : (ms : List Line) (u : ℕ) (o : Option ℕ) (i : ℕ) → partner_at (joined ms u o) i ≡ None
    → partner_at ms i ≡ None
none_joined ms u None i h = h
none_joined ms u (Some q) i h = go (partner_at ms i) refl
  where
    go : (x : Option ℕ) → partner_at ms i ≡ x → partner_at ms i ≡ None
    go None e = e
    go (Some x) e = elim (cases_eq u i) [
      | inl same ↦
          let g = first_at ms u q (subst (λ k. k < length ms) (sym same) (partner_within ms i x e)) in
          let f = subst (λ k. partner_at (joined ms u (Some q)) k ≡ Some q) same g in absurd (cc)
      | inr apart ↦ elim (cases_eq q i) [
        | inl same ↦
            let g = second_at ms u q (subst (λ k. k < length ms) (sym same) (partner_within ms i x e))
            (λ z. apart (z ∙ same)) in
            let f = subst (λ k. partner_at (joined ms u (Some q)) k ≡ Some u) same g in absurd (cc)
        | inr other ↦
            let g = kept_at ms u (Some q) i x e apart (λ z. other (cc)) in absurd (cc)
      ]
    ]

-- and who had none has none, but these two
pub none_kept : (ms : List Line) (u : ℕ) (o : Option ℕ) (i : ℕ) → partner_at ms i ≡ None → (i ≡ u → ⊥)
    → (o ≡ Some i → ⊥) → partner_at (joined ms u o) i ≡ None
none_kept ms u o i none apart other = go (partner_at (joined ms u o) i) refl
  where
    clash : (j : ℕ) → Met ms u o i j → ⊥
    clash j (is_first e f) = apart e
    clash j (is_second e f) = other e
    clash j (was_met e) = absurd (cc)

    go : (x : Option ℕ) → partner_at (joined ms u o) i ≡ x → partner_at (joined ms u o) i ≡ None
    go None e = e
    go (Some j) e = absurd (clash j (met ms u o i j e))
