-- Of two sends that a receive accepts, which has the second, the first has a receive that was posted earlier.
use Rattle.std.specs.Prelude.{ℕ, ◌<◌, ◌≤◌, ◌≡◌, true, List, [], ◌∷◌, length, Some, None}
use Rattle.std.specs.List.{slice_get}
use Rattle.std.proofs.Common.{sym, ap, ◌∙◌, subst, arith}
use Rattle.std.proofs.lemmas.Option.{same_Some}
use mathlib.Core.Logic.{inl, inr}
use Rattle.mp_match.specs.declared.posts.Sent.{Sent}
use Rattle.mp_match.specs.declared.posts.Selection.{Selection}
use Rattle.mp_match.specs.declared.posts.Post.{Post}
use Rattle.mp_match.specs.declared.posts.Post.TheVariants.{Send, Receive}
use Rattle.mp_match.specs.declared.posts.Line.{Line}
use Rattle.mp_match.specs.Pairs.{accepts, add}
use Rattle.mp_match.specs.PostPairs.{pairs, pairs_on}
use Rattle.mp_match.proofs.Places.{get_within}
use Rattle.mp_match.proofs.Lines.{Look, is_given, is_new, is_old, look}
use Rattle.mp_match.proofs.OrderKept.{Good, Takes, Together, chosen, good_more, good_none}

-- no receive has a later send of two while the first has a later receive
abbrev pub Uncrossed : List Line → Type 0
Uncrossed ms = (i j k r : ℕ) (l n : Line) (a : Selection) (s : Sent) → i < j → k < r → slice_get ms i ≡ Some l
    → slice_get ms k ≡ Some n → l.post ≡ Send s → n.post ≡ Receive a → accepts a s ≡ true → n.partner ≡ Some j
    → l.partner ≡ Some r → ⊥

same_line : (ms : List Line) (i : ℕ) (m n : Line) → slice_get ms i ≡ Some m → slice_get ms i ≡ Some n → m ≡ n
same_line ms i m n h g = same_Some m n (sym h ∙ g)

-- the partner of a send takes a message
taker : (p q : Post) (s : Sent) → p ≡ Send s → Together p q → (b : Selection) × Takes q b
taker p q s e t = elim t.3 [
  | inl h ↦ elim h.0 [ inl f ↦ absurd (cc) | inr f ↦ absurd (cc) ]
  | inr h ↦ (t.0, h.1)
]

-- the partner of a receive is a send
sender : (p q : Post) (a : Selection) → p ≡ Receive a → Together p q → (t : Sent) × (q ≡ Send t)
sender p q a e t = elim t.3 [ inl h ↦ (t.1, h.1) | inr h ↦ (let f = h.0 in absurd (cc)) ]

module _ (ms : List Line) (p : Post) (good : Good ms) (before : Uncrossed ms) where
  uncrossed_look : (i j k r : ℕ) (l n : Line) (a : Selection) (s : Sent) → i < j → k < r → Look ms p i l → Look ms p k n
      → l.post ≡ Send s → n.post ≡ Receive a → accepts a s ≡ true → n.partner ≡ Some j → l.partner ≡ Some r
      → j ≤ length ms
      → ⊥
  uncrossed_look i j k r l n a s ij kr (is_new u e) ln lp np acc nj lr past = absurd (omega (arith, u, ij, past))
  uncrossed_look i j k r l n a s ij kr (is_old e) (is_new u f) lp np acc nj lr past =
      let x = good.paired i r l e lr in
      let b = get_within ms r x.0 x.1 in
      absurd (omega (arith, b, kr, u))
  uncrossed_look i j k r l n a s ij kr (is_given y e for g) (is_new u f) lp np acc nj lr past =
      let o : l.partner ≡ Some (length ms) = ap (λ (z : Line). z.partner) g in
      let at : r ≡ length ms = (cc) in
      absurd (omega (arith, at, kr, u))
  uncrossed_look i j k r l n a s ij kr (is_old e) (is_old f) lp np acc nj lr past =
      before i j k r l n a s ij kr e f lp np acc nj lr
  uncrossed_look i j k r l n a s ij kr (is_old e) (is_given y f for g) lp np acc nj lr past =
      let x = good.paired i r l e lr in
      let b = taker l.post (x.0).post s lp x.3 in
      let c = chosen ms p k for in
      let same : c.line ≡ y = same_line ms k c.line y c.here f in
      let free : y.partner ≡ None = subst (λ (z : Line). z.partner ≡ None) same c.free in
      let yp : y.post ≡ Receive a = sym (ap (λ (z : Line). z.post) g) ∙ np in
      good.receives k r i y x.0 l a b.0 s kr f x.1 e yp b.1 lp acc x.2 free
  uncrossed_look i j k r l n a s ij kr (is_given y e for g) (is_old f) lp np acc nj lr past =
      let x = good.paired k j n f nj in
      let t = sender n.post (x.0).post a np x.3 in
      let c = chosen ms p i for in
      let same : c.line ≡ y = same_line ms i c.line y c.here e in
      let free : y.partner ≡ None = subst (λ (z : Line). z.partner ≡ None) same c.free in
      let yp : y.post ≡ Send s = sym (ap (λ (z : Line). z.post) g) ∙ lp in
      good.sends i j k y x.0 n s t.0 a ij e x.1 f yp t.1 (inl np) acc nj free
  uncrossed_look i j k r l n a s ij kr (is_given y e for g) (is_given z f also h) lp np acc nj lr past =
      let at : i ≡ k = (cc) in
      let same : y ≡ z = same_line ms k y z (subst (λ x. slice_get ms x ≡ Some y) at e) f in
      let yp : y.post ≡ Send s = sym (ap (λ (x : Line). x.post) g) ∙ lp in
      let zp : z.post ≡ Receive a = sym (ap (λ (x : Line). x.post) h) ∙ np in
      let clash : Send s ≡ Receive a = sym yp ∙ ap (λ (x : Line). x.post) same ∙ zp in
      absurd (cc)

  -- no partner is past the end
  past_end : (k j : ℕ) (n : Line) → slice_get (add ms p) k ≡ Some n → n.partner ≡ Some j → j ≤ length ms
  past_end k j n h e =
      let more = good_more ms p good in
      let x = more.paired k j n h e in
      at (look ms p j x.0 x.1)
    where
      at : {m : Line} → Look ms p j m → j ≤ length ms
      at (is_new u f) = omega (arith, u)
      at {m} (is_old f) = (let b = get_within ms j m f in omega (arith, b))
      at (is_given y f for g) = (let b = get_within ms j y f in omega (arith, b))

  pub uncrossed_more : Uncrossed (add ms p)
  uncrossed_more i j k r l n a s ij kr h g lp np acc nj lr =
      uncrossed_look i j k r l n a s ij kr (look ms p i l h) (look ms p k n g) lp np acc nj lr (past_end k j n g nj)

uncrossed_on : (ps : List Post) (ms : List Line) → Good ms → Uncrossed ms → Uncrossed (pairs_on ms ps)
uncrossed_on [] ms good before = before
uncrossed_on (p ∷ ps) ms good before =
    uncrossed_on ps (add ms p) (good_more ms p good) (uncrossed_more ms p good before)

pub uncrossed : (ps : List Post) → Uncrossed (pairs ps)
uncrossed ps = uncrossed_on ps [] good_none (λ i j k r l n a s ij kr h. absurd (cc))
