-- Boards with two posts of two ranks more, in one order and in the other.
use Rattle.std.proofs.Common.{◌≡◌, ℕ, zero, suc, ◌+◌, ◌<◌, inl, inr, List, [], ◌∷◌, ◌++◌, length, Option, Some, None, refl, sym, ap, ◌∙◌, subst, arith}
use Rattle.std.specs.Prelude.{◌≢◌, true}
use Rattle.std.specs.List.{slice_get}
use Rattle.std.specs.Option.{option_map}
use Rattle.std.proofs.lemmas.Bool.{cases_eq, cases_order}
use Rattle.std.proofs.lemmas.Option.{same_Some, slice_get_past}
use Rattle.mp_match.specs.declared.posts.Line.{Line}
use Rattle.mp_match.specs.declared.posts.Post.{Post}
use Rattle.mp_match.specs.declared.posts.Post.TheVariants.{Send, Receive, Claim}
use Rattle.mp_match.specs.declared.posts.Selection.{Selection}
use Rattle.mp_match.specs.declared.posts.Sent.{Sent}
use Rattle.mp_match.specs.Board.{Board, board_with}
use Rattle.mp_match.specs.Pairs.{add}
use Rattle.mp_match.proofs.Lines.{Look, add_length, is_given, is_new, is_old, look}
use Rattle.mp_match.proofs.OrderKept.{Good}
use Rattle.mp_match.proofs.Places.{get_front, get_last, get_within}
use Rattle.mp_alike_laws.specs.Renaming.{line_by}
use Rattle.mp_alike_laws.specs.Alike.{maker}
use Rattle.mp_source_laws.specs.Alike.{AlikeBoards, Wild, is_same}
use Rattle.mp_clash_laws.proofs.Swaps.{at_first, at_second, below, beyond, keeps, swap, to_other}
use Rattle.mp_clash_laws.proofs.Two.{last_one, new_line, one, other, two_longer}

-- ---- the bodies

pub item_at : {A : Type 0} (xs : List A) (k : ℕ) → k < length xs → (x : A) × (slice_get xs k ≡ Some x)
item_at [] k h = absurd (omega (arith, h))
item_at (x ∷ xs) zero h = (x, refl)
item_at (x ∷ xs) (suc k) h = item_at xs k (omega (arith, h))

pub snoc_length : {A : Type 0} (xs : List A) (x : A) → length (xs ++ x ∷ []) ≡ suc (length xs)
snoc_length [] x = refl
snoc_length (y ∷ xs) x = ap suc (snoc_length xs x)

module _ {A : Type 0} (xs : List A) (x y : A) where
  abbrev n : ℕ
  n = length xs

  pub last_of : (u v : A) → slice_get ((xs ++ u ∷ []) ++ v ∷ []) (suc n) ≡ Some v
  last_of u v =
      subst (λ k. slice_get ((xs ++ u ∷ []) ++ v ∷ []) k ≡ Some v) (snoc_length xs u) (get_last (xs ++ u ∷ []) v)

  pub first_of : (u v : A) → slice_get ((xs ++ u ∷ []) ++ v ∷ []) n ≡ Some u
  first_of u v = get_front (xs ++ u ∷ []) (v ∷ []) n u (get_last xs u)

  pub two_items : (place : ℕ)
      → slice_get ((xs ++ x ∷ []) ++ y ∷ []) (to_other n place) ≡ slice_get ((xs ++ y ∷ []) ++ x ∷ []) place
  two_items place = elim (cases_order place n) [
    | inl same ↦
        ap (λ k. slice_get ((xs ++ x ∷ []) ++ y ∷ []) (to_other n k)) same
        ∙ ap (slice_get ((xs ++ x ∷ []) ++ y ∷ [])) (at_first n) ∙ last_of x y
        ∙ sym (ap (slice_get ((xs ++ y ∷ []) ++ x ∷ [])) same ∙ first_of y x)
    | inr more ↦ elim more [
      | inl before ↦
          let i = item_at xs place before in
          ap (slice_get ((xs ++ x ∷ []) ++ y ∷ [])) (below n place before)
          ∙ get_front (xs ++ x ∷ []) (y ∷ []) place i.0 (get_front xs (x ∷ []) place i.0 i.1)
          ∙ sym (get_front (xs ++ y ∷ []) (x ∷ []) place i.0 (get_front xs (y ∷ []) place i.0 i.1))
      | inr behind ↦ elim (cases_eq place (suc n)) [
        | inl same ↦
            ap (λ k. slice_get ((xs ++ x ∷ []) ++ y ∷ []) (to_other n k)) same
            ∙ ap (slice_get ((xs ++ x ∷ []) ++ y ∷ [])) (at_second n) ∙ first_of x y
            ∙ sym (ap (slice_get ((xs ++ y ∷ []) ++ x ∷ [])) same ∙ last_of y x)
        | inr far ↦
            ap (slice_get ((xs ++ x ∷ []) ++ y ∷ [])) (beyond n place (omega (arith, behind, far)))
            ∙ slice_get_past ((xs ++ x ∷ []) ++ y ∷ []) place
            (let a = snoc_length xs x in let b = snoc_length (xs ++ x ∷ []) y in omega (arith, a, b, behind, far))
            ∙ sym (slice_get_past ((xs ++ y ∷ []) ++ x ∷ []) place
            (let a = snoc_length xs y in let b = snoc_length (xs ++ y ∷ []) x in omega (arith, a, b, behind, far)))
      ]
    ]
  ]

-- ---- the boards

-- a post that is no claim
abbrev pub IsPlain : Post → Type 0
IsPlain (Send s) = Unit {0}
IsPlain (Receive a) = Unit {0}
IsPlain (Claim a) = ⊥

no_claim : (p : Post) (a : Selection) → IsPlain p → p ≡ Claim a → ⊥
no_claim p a plain is = subst IsPlain is plain

module _ (ms : List Line) (p q : Post) (good : Good ms) where
  -- the first of the new posts is q, the second p
  pub first_is : (m : Line) → slice_get (one ms p q good) (length ms) ≡ Some m → m.post ≡ q
  first_is m here = go (look (add ms q) p (length ms) m here)
    where
      in_q : (x : Line) → Look ms q (length ms) x → x.post ≡ q
      in_q x (is_new at is) = ap (λ (z : Line). z.post) is
      in_q x (is_old old) = (let w = get_within ms (length ms) x old in absurd (omega (arith, w)))
      in_q x (is_given z old found is) = (let w = get_within ms (length ms) z old in absurd (omega (arith, w)))

      go : Look (add ms q) p (length ms) m → m.post ≡ q
      go (is_new at is) = (let e = add_length ms q in absurd (omega (arith, at, e)))
      go (is_old old) = in_q m (look ms q (length ms) m old)
      go (is_given x old found is) = ap (λ (z : Line). z.post) is ∙ in_q x (look ms q (length ms) x old)

  pub second_is : (m : Line) → slice_get (one ms p q good) (suc (length ms)) ≡ Some m → m.post ≡ p
  second_is m here =
      sym (ap (λ (z : Line). z.post) (same_Some _ m (sym (last_one ms p q good) ∙ here)))

-- where the two make no race for one message
abbrev pub IsNoRace : Wild → Post → Post → Type 0
IsNoRace wild p q =
    (s t : Sent) → q ≡ Send s → p ≡ Send t → s.dest ≡ t.dest → (s.envelope).comm ≡ (t.envelope).comm
    → wild s.dest (s.envelope).comm ≡ true → ⊥

module _ (wild : Wild) (b : Board) (p q : Post) (x y : Option (List ℕ)) (good : Good b.lines)
    (even : length b.bodies ≡ length b.lines) (plain : IsPlain p) (also : IsPlain q) (makers : maker p ≢ maker q)
    (calm : IsNoRace wild p q)
    (same : (place : ℕ) → slice_get (other b.lines p q good) (to_other (length b.lines) place)
    ≡ option_map (line_by (swap (length b.lines))) (slice_get (one b.lines p q good) place)) where
  abbrev here_n : ℕ
  here_n = length b.lines

  abbrev lines : List Line
  lines = one b.lines p q good

  long : length (other b.lines p q good) ≡ length lines
  long =
      let u = two_longer b.lines p q good in
      let v = two_longer b.lines q p good in
      omega (arith, u, v)

  many_places : length lines ≡ here_n + 2
  many_places = two_longer b.lines p q good

  not_both : (i j : ℕ) (m l : Line) → slice_get lines i ≡ Some m → slice_get lines j ≡ Some l
      → (m.post ≡ q → l.post ≡ p → ⊥) → i ≡ here_n → j ≡ suc here_n → ⊥
  not_both i j m l here there apart first second =
      apart (first_is b.lines p q good m (ap (slice_get lines) (sym first) ∙ here))
      (second_is b.lines p q good l (ap (slice_get lines) (sym second) ∙ there))

  pub two_alike : AlikeBoards wild (swap here_n) (board_with (board_with b q y) p x) (board_with (board_with b p x) q y)
  two_alike = record {
    many = long;
    next = λ place past. beyond here_n place (let e = many_places in omega (arith, e, past));
    lines = λ place. is_same (same place);
    bodies = λ place.
        subst (λ k. slice_get ((b.bodies ++ x ∷ []) ++ y ∷ []) (to_other k place)
        ≡ slice_get ((b.bodies ++ y ∷ []) ++ x ∷ []) place) even (two_items b.bodies x y place);
    claims = λ place line what here is. elim (cases_eq place here_n) [
      | inl first ↦
          absurd (no_claim q what also
          (sym (first_is b.lines p q good line (ap (slice_get lines) (sym first) ∙ here)) ∙ is))
      | inr not_first ↦ elim (cases_eq place (suc here_n)) [
        | inl second ↦
            absurd (no_claim p what plain
            (sym (second_is b.lines p q good line (ap (slice_get lines) (sym second) ∙ here)) ∙ is))
        | inr not_second ↦
            below here_n place
            (let w = get_within lines place line here in let e = many_places in
            omega (arith, w, e, not_first, not_second))
      ]
    ];
    ranks = λ i j m l before here there by live alive.
        keeps here_n i j before
        (not_both i j m l here there (λ e f. makers (sym (ap maker f) ∙ sym by ∙ ap maker e)));
    sends = λ i j s t before here there dest comm any.
        keeps here_n i j before
        (not_both i j (new_line (Send s) None) (new_line (Send t) None) here there
        (λ e f. calm s t (sym e) (sym f) dest comm any));
  }
