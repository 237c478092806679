-- The pairs of posts keep the order laws.
use Rattle.std.specs.Prelude.{ℕ, zero, suc, ◌<◌, ◌≤◌, ◌≡◌, ◌⊎◌, true, false, List, [], ◌∷◌, ◌++◌, length, Option, Some, None}
use Rattle.std.specs.List.{slice_get}
use Rattle.std.proofs.Common.{refl, sym, ap, ◌∙◌, subst, arith, append_assoc, append-nil}
use Rattle.std.proofs.lemmas.Bool.{and_parts}
use Rattle.std.proofs.lemmas.Option.{same_Some}
use mathlib.Core.Logic.{inl, inr}
use Rattle.mp_match.specs.declared.posts.Sent.{Sent}
use Rattle.mp_match.specs.declared.posts.Selection.{Selection}
use Rattle.mp_match.specs.declared.posts.Post.{Post}
use Rattle.mp_match.specs.declared.posts.Post.TheVariants.{Send, Receive, Claim}
use Rattle.mp_match.specs.declared.posts.Line.{Line}
use Rattle.mp_match.specs.Pairs.{partner_set, partners_told, accepts, may_pair, is_free, fits, partner_for, add}
use Rattle.mp_match.specs.Pairs.{partner_at, partner_of_line}
use Rattle.mp_match.specs.PostPairs.{posts_of, pairs_on, pairs}
use Rattle.mp_match.specs.Order.{TakesAt, IsPairing, NoSendOvertakes, NoReceiveOvertakes, OrderLaws}
use Rattle.mp_match.proofs.Places.{found_first, found_none, get_within}
use Rattle.mp_match.proofs.Lines.{given, Look, is_new, is_old, is_given, look, add_new, add_old, add_given}

abbrev pub Takes : Post → Selection → Type 0
Takes p a = (p ≡ Receive a) ⊎ (p ≡ Claim a)

abbrev pub Together : Post → Post → Type 0
Together p q = (a : Selection) × (s : Sent) × (accepts a s ≡ true)
    × ((Takes p a × (q ≡ Send s)) ⊎ ((p ≡ Send s) × Takes q a))

-- what holds of the lines of posts
pub record Good (ms : List Line) : Type 0 where
  pub paired : (i j : ℕ) (m : Line) → slice_get ms i ≡ Some m → m.partner ≡ Some j
      → (n : Line) × (slice_get ms j ≡ Some n) × (n.partner ≡ Some i) × Together m.post n.post
  pub idle : (i j : ℕ) (m n : Line) (a : Selection) (s : Sent) → slice_get ms i ≡ Some m → slice_get ms j ≡ Some n
      → m.partner ≡ None → n.partner ≡ None → m.post ≡ Receive a → n.post ≡ Send s → accepts a s ≡ true → ⊥
  pub sends : (i j k : ℕ) (l m n : Line) (s t : Sent) (a : Selection) → i < j
      → slice_get ms i ≡ Some l → slice_get ms j ≡ Some m → slice_get ms k ≡ Some n
      → l.post ≡ Send s → m.post ≡ Send t → Takes n.post a → accepts a s ≡ true
      → n.partner ≡ Some j → l.partner ≡ None → ⊥
  pub receives : (i j k : ℕ) (l m n : Line) (a b : Selection) (s : Sent) → i < j
      → slice_get ms i ≡ Some l → slice_get ms j ≡ Some m → slice_get ms k ≡ Some n
      → l.post ≡ Receive a → Takes m.post b → n.post ≡ Send s → accepts a s ≡ true
      → m.partner ≡ Some k → l.partner ≡ None → ⊥

pub free_none : (o : Option ℕ) → is_free o ≡ true → o ≡ None
free_none None e = refl
free_none (Some k) e = absurd (cc)

-- a post that fits
fits_from : (p : Post) (m : Line) → m.partner ≡ None → may_pair p m.post ≡ true → fits p m ≡ true
fits_from p m e h = rw (e, h) refl

fits_free : (p : Post) (m : Line) → fits p m ≡ true → m.partner ≡ None
fits_free p m h = free_none m.partner (and_parts (is_free m.partner) (may_pair p m.post) h).0

fits_pair : (p : Post) (m : Line) → fits p m ≡ true → may_pair p m.post ≡ true
fits_pair p m h = (and_parts (is_free m.partner) (may_pair p m.post) h).1

no_fit : (p : Post) (m : Line) → fits p m ≡ false → m.partner ≡ None → may_pair p m.post ≡ true → ⊥
no_fit p m f e h = (let g : fits p m ≡ true = fits_from p m e h in absurd (cc))

together : (p q : Post) → may_pair p q ≡ true → Together p q
together (Send s) (Send t) h = absurd (cc)
together (Send s) (Receive a) h = (a, s, h, inr (refl, inl refl))
together (Send s) (Claim a) h = absurd (cc)
together (Receive a) (Send s) h = (a, s, h, inl (inl refl, refl))
together (Receive a) (Receive b) h = absurd (cc)
together (Receive a) (Claim b) h = absurd (cc)
together (Claim a) (Send s) h = (a, s, h, inl (inr refl, refl))
together (Claim a) (Receive b) h = absurd (cc)
together (Claim a) (Claim b) h = absurd (cc)

flip : (p q : Post) → Together p q → Together q p
flip p q t = (t.0, t.1, t.2, elim t.3 [ inl h ↦ inr (h.1, h.0) | inr h ↦ inl (h.1, h.0) ])

-- a receive or a claim may have a send that it accepts
takes_pair : (p q : Post) (a : Selection) (s : Sent) → Takes p a → q ≡ Send s → accepts a s ≡ true → may_pair p q ≡ true
takes_pair p q a s (inl e) g h = rw (e, g) h
takes_pair p q a s (inr e) g h = rw (e, g) h

send_pair : (p q : Post) (a : Selection) (s : Sent) → p ≡ Send s → q ≡ Receive a → accepts a s ≡ true
    → may_pair p q ≡ true
send_pair p q a s e g h = rw (e, g) h

-- a send has a receive, and no claim, of the posts before
send_takes : (p q : Post) (a : Selection) (s : Sent) → p ≡ Send s → Takes q a → may_pair p q ≡ true → q ≡ Receive a
send_takes p q a s e (inl g) h = g
send_takes p q a s e (inr g) h = (let f : may_pair (Send s) (Claim a) ≡ true = rw (e, g) at h in absurd (cc))

at_place : (ms : List Line) (i : ℕ) (m n : Line) → slice_get ms i ≡ Some m → slice_get ms i ≡ Some n → m ≡ n
at_place ms i m n h g = same_Some m n (sym h ∙ g)

-- the line that the new post's partner had
pub record Chosen (ms : List Line) (p : Post) (i : ℕ) : Type 0 where
  pub line : Line
  pub here : slice_get ms i ≡ Some line
  pub free : line.partner ≡ None
  pub pair : may_pair p line.post ≡ true
  pub least : (l : ℕ) (y : Line) → l < i → slice_get ms l ≡ Some y → y.partner ≡ None → may_pair p y.post ≡ true → ⊥

pub chosen : (ms : List Line) (p : Post) (i : ℕ) → partner_for ms p ≡ Some i → Chosen ms p i
chosen ms p i h =
    let f = found_first (fits p) ms i h in
    record {
      line = f.0;
      here = f.1;
      free = fits_free p f.0 f.2;
      pair = fits_pair p f.0 f.2;
      least = λ l y m g e pair. no_fit p y (f.3 l y m g) e pair;
    }

unchosen : (ms : List Line) (p : Post) → partner_for ms p ≡ None → (l : ℕ) (y : Line) → slice_get ms l ≡ Some y
    → y.partner ≡ None → may_pair p y.post ≡ true → ⊥
unchosen ms p h l y g e pair = no_fit p y (found_none (fits p) 0 ms h l y g) e pair

module _ (ms : List Line) (p : Post) (good : Good ms) where
  idle_more : (i j : ℕ) (m n : Line) (a : Selection) (s : Sent) → Look ms p i m → Look ms p j n
      → m.partner ≡ None → n.partner ≡ None → m.post ≡ Receive a → n.post ≡ Send s → accepts a s ≡ true → ⊥
  idle_more i j m n a s (is_new u e) (is_new v f) mn nn mp np h =
      (let pm : p ≡ Receive a = (cc) in let pn : p ≡ Send s = (cc) in absurd (cc))
  idle_more i j m n a s (is_new u e) (is_old f) mn nn mp np h =
      let none : partner_for ms p ≡ None = (cc) in
      let pm : p ≡ Receive a = (cc) in
      unchosen ms p none j n f nn (takes_pair p n.post a s (inl pm) np h)
  idle_more i j m n a s (is_old e) (is_new v f) mn nn mp np h =
      let none : partner_for ms p ≡ None = (cc) in
      let pn : p ≡ Send s = (cc) in
      unchosen ms p none i m e mn (send_pair p m.post a s pn mp h)
  idle_more i j m n a s (is_old e) (is_old f) mn nn mp np h = good.idle i j m n a s e f mn nn mp np h
  idle_more i j m n a s (is_given x e c g) other mn nn mp np h =
      (let o : m.partner ≡ Some (length ms) = ap (λ (z : Line). z.partner) g in absurd (cc))
  idle_more i j m n a s (is_new u e) (is_given x f c g) mn nn mp np h =
      (let o : n.partner ≡ Some (length ms) = ap (λ (z : Line). z.partner) g in absurd (cc))
  idle_more i j m n a s (is_old e) (is_given x f c g) mn nn mp np h =
      (let o : n.partner ≡ Some (length ms) = ap (λ (z : Line). z.partner) g in absurd (cc))

  -- no line has a partner past the end
  none_past : (i : ℕ) (m : Line) → slice_get ms i ≡ Some m → m.partner ≡ Some (length ms) → ⊥
  none_past i m h e =
      let q = good.paired i (length ms) m h e in
      let b = get_within ms (length ms) q.0 q.1 in
      absurd (omega (arith, b))

  -- an old place is before the new one
  old_below : (i : ℕ) (m : Line) → Look ms p i m → i ≤ length ms
  old_below i m (is_new u e) = omega arith
  old_below i m (is_old e) = (let b = get_within ms i m e in omega (arith, b))
  old_below i m (is_given x e c g) = (let b = get_within ms i x e in omega (arith, b))

  below_old : (i j : ℕ) (m : Line) → i < j → i ≡ length ms → Look ms p j m → ⊥
  below_old i j m h e l = (let b = old_below j m l in absurd (omega (arith, b, h, e)))

  sends_more : (i j k : ℕ) (l m n : Line) (s t : Sent) (a : Selection) → i < j → Look ms p i l → Look ms p j m
      → Look ms p k n
      → l.post ≡ Send s → m.post ≡ Send t → Takes n.post a → accepts a s ≡ true
      → n.partner ≡ Some j → l.partner ≡ None → ⊥
  sends_more i j k l m n s t a below (is_new u e) lm ln lp mp np h nj li = below_old i j m below u lm
  sends_more i j k l m n s t a below (is_given x f c g) lm ln lp mp np h nj li =
      (let o : l.partner ≡ Some (length ms) = ap (λ (z : Line). z.partner) g in absurd (cc))
  sends_more i j k l m n s t a below (is_old e) lm (is_new u f) lp mp np h nj li =
      let c = chosen ms p j (sym (ap (λ (z : Line). z.partner) f) ∙ nj) in
      c.least i l below e li (takes_pair p l.post a s (subst (λ q. Takes q a) (ap (λ (z : Line). z.post) f) np) lp h)
  sends_more i j k l m n s t a below (is_old e) (is_new u g) (is_old f) lp mp np h nj li =
      none_past k n f (nj ∙ ap (λ q. Some q) u)
  sends_more i j k l m n s t a below (is_old e) (is_old g) (is_old f) lp mp np h nj li =
      good.sends i j k l m n s t a below e g f lp mp np h nj li
  sends_more i j k l m n s t a below (is_old e) (is_given x g c q) (is_old f) lp mp np h nj li =
      good.sends i j k l x n s t a below e g f lp (sym (ap (λ (z : Line). z.post) q) ∙ mp) np h nj li
  sends_more i j k l m n s t a below (is_old e) (is_new u g) (is_given x f c q) lp mp np h nj li =
      let ch = chosen ms p k c in
      let same : ch.line ≡ x = at_place ms k ch.line x ch.here f in
      let xp : Takes x.post a = subst (λ r. Takes r a) (ap (λ (z : Line). z.post) q) np in
      let ps : p ≡ Send t = sym (ap (λ (z : Line). z.post) g) ∙ mp in
      let pair : may_pair p x.post ≡ true = subst (λ (z : Line). may_pair p z.post ≡ true) same ch.pair in
      let free : x.partner ≡ None = subst (λ (z : Line). z.partner ≡ None) same ch.free in
      good.idle k i x l a s f e free li (send_takes p x.post a t ps xp pair) lp h
  sends_more i j k l m n s t a below (is_old e) (is_old g) (is_given x f c q) lp mp np h nj li =
      let o : n.partner ≡ Some (length ms) = ap (λ (z : Line). z.partner) q in
      let same : j ≡ length ms = (cc) in
      let b = get_within ms j m g in absurd (omega (arith, b, same))
  sends_more i j k l m n s t a below (is_old e) (is_given y g d r) (is_given x f c q) lp mp np h nj li =
      let o : n.partner ≡ Some (length ms) = ap (λ (z : Line). z.partner) q in
      let same : j ≡ length ms = (cc) in
      let b = get_within ms j y g in absurd (omega (arith, b, same))

  receives_more : (i j k : ℕ) (l m n : Line) (a b : Selection) (s : Sent) → i < j → Look ms p i l → Look ms p j m
      → Look ms p k n
      → l.post ≡ Receive a → Takes m.post b → n.post ≡ Send s → accepts a s ≡ true
      → m.partner ≡ Some k → l.partner ≡ None → ⊥
  receives_more i j k l m n a b s below (is_new u e) lm ln lp mp np h mk li = below_old i j m below u lm
  receives_more i j k l m n a b s below (is_given x f c g) lm ln lp mp np h mk li =
      (let o : l.partner ≡ Some (length ms) = ap (λ (z : Line). z.partner) g in absurd (cc))
  receives_more i j k l m n a b s below (is_old e) (is_new u f) ln lp mp np h mk li =
      let c = chosen ms p k (sym (ap (λ (z : Line). z.partner) f) ∙ mk) in
      good.idle i k l c.line a s e c.here li c.free lp (old_post k n ln c np) h
    where
      old_post : (k : ℕ) (n : Line) → Look ms p k n → (c : Chosen ms p k) → n.post ≡ Send s → (c.line).post ≡ Send s
      old_post k n (is_new u e) c g = (let w = get_within ms k c.line c.here in absurd (omega (arith, w, u)))
      old_post k n (is_old e) c g = ap (λ (z : Line). z.post) (at_place ms k c.line n c.here e) ∙ g
      old_post k n (is_given x e d q) c g =
          ap (λ (z : Line). z.post) (at_place ms k c.line x c.here e) ∙ sym (ap (λ (z : Line). z.post) q) ∙ g
  receives_more i j k l m n a b s below (is_old e) (is_old f) (is_new u g) lp mp np h mk li =
      none_past j m f (mk ∙ ap (λ q. Some q) u)
  receives_more i j k l m n a b s below (is_old e) (is_old f) (is_old g) lp mp np h mk li =
      good.receives i j k l m n a b s below e f g lp mp np h mk li
  receives_more i j k l m n a b s below (is_old e) (is_old f) (is_given x g c q) lp mp np h mk li =
      good.receives i j k l m x a b s below e f g lp mp (sym (ap (λ (z : Line). z.post) q) ∙ np) h mk li
  receives_more i j k l m n a b s below (is_old e) (is_given x f c q) ln lp mp np h mk li =
      let ch = chosen ms p j c in
      let o : m.partner ≡ Some (length ms) = ap (λ (z : Line). z.partner) q in
      let same : k ≡ length ms = (cc) in
      ch.least i l below e li (send_pair p l.post a s (new_post k n ln same np) lp h)
    where
      new_post : (k : ℕ) (n : Line) → Look ms p k n → k ≡ length ms → n.post ≡ Send s → p ≡ Send s
      new_post k n (is_new u e) same g = sym (ap (λ (z : Line). z.post) e) ∙ g
      new_post k n (is_old e) same g = (let w = get_within ms k n e in absurd (omega (arith, w, same)))
      new_post k n (is_given x e d q) same g = (let w = get_within ms k x e in absurd (omega (arith, w, same)))

  paired_more : (i j : ℕ) (m : Line) → Look ms p i m → m.partner ≡ Some j
      → (n : Line) × (slice_get (add ms p) j ≡ Some n) × (n.partner ≡ Some i) × Together m.post n.post
  paired_more i j m (is_new u e) mj =
      let for : partner_for ms p ≡ Some j = sym (ap (λ (z : Line). z.partner) e) ∙ mj in
      let c = chosen ms p j for in (
        given c.line (length ms),
        add_given ms p j c.line c.here for,
        ap (λ q. Some q) (sym u),
        subst (λ q. Together q (c.line).post) (sym (ap (λ (z : Line). z.post) e)) (together p (c.line).post c.pair),
      )
  paired_more i j m (is_old e) mj =
      let q = good.paired i j m e mj in (
        q.0,
        add_old ms p j q.0 q.1 (λ for.
            let c = chosen ms p j for in
            let same : c.line ≡ q.0 = at_place ms j c.line q.0 c.here q.1 in
            let free : (q.0).partner ≡ None = subst (λ (z : Line). z.partner ≡ None) same c.free in
            let has = q.2 in absurd (cc)),
        q.2,
        q.3,
      )
  paired_more i j m (is_given x e for g) mj =
      let c = chosen ms p i for in
      let same : c.line ≡ x = at_place ms i c.line x c.here e in
      let o : m.partner ≡ Some (length ms) = ap (λ (z : Line). z.partner) g in
      let end : length ms ≡ j = (cc) in (
        record { post = p; partner = partner_for ms p },
        subst (λ q. slice_get (add ms p) q ≡ Some (record { post = p; partner = partner_for ms p })) end (add_new ms p),
        for,
        subst (λ q. Together q p) (sym (ap (λ (z : Line). z.post) g))
            (flip p x.post (together p x.post (subst (λ (z : Line). may_pair p z.post ≡ true) same c.pair))),
      )

  pub good_more : Good (add ms p)
  good_more = record {
    paired = λ i j m h e. paired_more i j m (look ms p i m h) e;
    idle = λ i j m n a s h g. idle_more i j m n a s (look ms p i m h) (look ms p j n g);
    sends = λ i j k l m n s t a below h g f.
        sends_more i j k l m n s t a below (look ms p i l h) (look ms p j m g) (look ms p k n f);
    receives = λ i j k l m n a b s below h g f.
        receives_more i j k l m n a b s below (look ms p i l h) (look ms p j m g) (look ms p k n f);
  }

pub good_on : (ps : List Post) (ms : List Line) → Good ms → Good (pairs_on ms ps)
good_on [] ms g = g
good_on (p ∷ ps) ms g = good_on ps (add ms p) (good_more ms p g)

pub good_none : Good []
good_none = record {
  paired = λ i j m h e. absurd (cc);
  idle = λ i j m n a s h. absurd (cc);
  sends = λ i j k l m n s t a below h. absurd (cc);
  receives = λ i j k l m n a b s below h. absurd (cc);
}

posts_set : (ms : List Line) (q k : ℕ) → posts_of (partner_set ms q k) ≡ posts_of ms
posts_set [] q k = refl
posts_set (m ∷ ms) zero k = refl
posts_set (m ∷ ms) (suc q) k = ap (λ l. m.post ∷ l) (posts_set ms q k)

posts_told : (ms : List Line) (o : Option ℕ) → posts_of (partners_told ms o) ≡ posts_of ms
posts_told ms None = refl
posts_told ms (Some q) = posts_set ms q (length ms)

posts_snoc : (ms : List Line) (m : Line) → posts_of (ms ++ m ∷ []) ≡ posts_of ms ++ m.post ∷ []
posts_snoc [] m = refl
posts_snoc (x ∷ ms) m = ap (λ l. x.post ∷ l) (posts_snoc ms m)

pub posts_add : (ms : List Line) (p : Post) → posts_of (add ms p) ≡ posts_of ms ++ p ∷ []
posts_add ms p =
    posts_snoc (partners_told ms (partner_for ms p)) _ ∙ ap (λ l. l ++ p ∷ []) (posts_told ms (partner_for ms p))

posts_on : (ps : List Post) (ms : List Line) → posts_of (pairs_on ms ps) ≡ posts_of ms ++ ps
posts_on [] ms = sym (append-nil (posts_of ms))
posts_on (p ∷ ps) ms =
    posts_on ps (add ms p) ∙ ap (λ l. l ++ ps) (posts_add ms p) ∙ append_assoc (posts_of ms) (p ∷ []) ps

pub posts_pairs : (ps : List Post) → posts_of (pairs ps) ≡ ps
posts_pairs ps = posts_on ps []

pub pairs_more : (ps qs : List Post) (ms : List Line) → pairs_on ms (ps ++ qs) ≡ pairs_on (pairs_on ms ps) qs
pairs_more [] qs ms = refl
pairs_more (p ∷ ps) qs ms = pairs_more ps qs (add ms p)

line_in : (ms : List Line) (i : ℕ) (p : Post) → slice_get (posts_of ms) i ≡ Some p
    → (m : Line) × (slice_get ms i ≡ Some m) × (m.post ≡ p)
line_in [] i p h = absurd (cc)
line_in (m ∷ ms) zero p h = (m, refl, (cc))
line_in (m ∷ ms) (suc i) p h = line_in ms i p h

line_out : (ms : List Line) (i : ℕ) (m : Line) → slice_get ms i ≡ Some m → slice_get (posts_of ms) i ≡ Some m.post
line_out [] i m h = absurd (cc)
line_out (x ∷ ms) zero m h = (let e : x ≡ m = (cc) in ap (λ (y : Line). Some y.post) e)
line_out (x ∷ ms) (suc i) m h = line_out ms i m h

pub partner_line : (ms : List Line) (i j : ℕ) → partner_at ms i ≡ Some j
    → (m : Line) × (slice_get ms i ≡ Some m) × (m.partner ≡ Some j)
partner_line ms i j h = go (slice_get ms i) refl h
  where
    go : (o : Option Line) → slice_get ms i ≡ o → partner_of_line o ≡ Some j
        → (m : Line) × (slice_get ms i ≡ Some m) × (m.partner ≡ Some j)
    go None e h = absurd (cc)
    go (Some m) e h = (m, e, h)

some_or_none : (o : Option ℕ) → (o ≡ None → ⊥) → (r : ℕ) × (o ≡ Some r)
some_or_none None h = absurd (h refl)
some_or_none (Some r) h = (r, refl)

module _ (ms : List Line) (good : Good ms) where
  line_of : (i : ℕ) (p : Post) → slice_get (posts_of ms) i ≡ Some p
      → (m : Line) × (slice_get ms i ≡ Some m) × (m.post ≡ p)
  line_of i p h = line_in ms i p h

  partner_is : (i : ℕ) (m : Line) → slice_get ms i ≡ Some m → partner_at ms i ≡ m.partner
  partner_is i m h = ap partner_of_line h

  takes_line : (i : ℕ) (a : Selection) → TakesAt (posts_of ms) i a
      → (m : Line) × (slice_get ms i ≡ Some m) × Takes m.post a
  takes_line i a (inl h) = (let l = line_in ms i (Receive a) h in (l.0, l.1, inl l.2))
  takes_line i a (inr h) = (let l = line_in ms i (Claim a) h in (l.0, l.1, inr l.2))

  takes_at : (i : ℕ) (m : Line) (a : Selection) → slice_get ms i ≡ Some m → Takes m.post a → TakesAt (posts_of ms) i a
  takes_at i m a h (inl e) = inl (line_out ms i m h ∙ ap (λ q. Some q) e)
  takes_at i m a h (inr e) = inr (line_out ms i m h ∙ ap (λ q. Some q) e)

  pub pairing_of : IsPairing (posts_of ms) (partner_at ms)
  pairing_of i j h =
      let m = partner_line ms i j h in
      let q = good.paired i j m.0 m.1 m.2 in (
        partner_is j q.0 q.1 ∙ q.2,
        (
          (q.3).0,
          (q.3).1,
          (q.3).2,
          elim (q.3).3 [
            | inl t ↦ inl (takes_at i m.0 (q.3).0 m.1 t.0, line_out ms j q.0 q.1 ∙ ap (λ r. Some r) t.1)
            | inr t ↦ inr (line_out ms i m.0 m.1 ∙ ap (λ r. Some r) t.0, takes_at j q.0 (q.3).0 q.1 t.1)
          ],
        ),
      )

  pub sends_of : NoSendOvertakes (posts_of ms) (partner_at ms)
  sends_of i j k s t a below hi hj hk source dest acc bcc h =
      let l = line_in ms i (Send s) hi in
      let m = line_in ms j (Send t) hj in
      let n = takes_line k a hk in
      let r = some_or_none (l.0).partner
      (λ none. good.sends i j k l.0 m.0 n.0 s t a below l.1 m.1 n.1 l.2 m.2 n.2 acc
      (sym (partner_is k n.0 n.1) ∙ h) none) in
      (r.0, partner_is i l.0 l.1 ∙ r.1)

  pub receives_of : NoReceiveOvertakes (posts_of ms) (partner_at ms)
  receives_of i j k a b s below hi hj hk acc bcc h =
      let l = line_in ms i (Receive a) hi in
      let m = takes_line j b hj in
      let n = line_in ms k (Send s) hk in
      let r = some_or_none (l.0).partner
      (λ none. good.receives i j k l.0 m.0 n.0 a b s below l.1 m.1 n.1 l.2 m.2 n.2 acc
      (sym (partner_is j m.0 m.1) ∙ h) none) in
      (r.0, partner_is i l.0 l.1 ∙ r.1)

pub stays_add : (ms : List Line) (p : Post) (i j : ℕ) → partner_at ms i ≡ Some j → partner_at (add ms p) i ≡ Some j
stays_add ms p i j h =
    let m = partner_line ms i j h in
    ap partner_of_line (add_old ms p i m.0 m.1 (λ for.
    let c = chosen ms p i for in
    let same : c.line ≡ m.0 = at_place ms i c.line m.0 c.here m.1 in
    let free : (m.0).partner ≡ None = subst (λ (z : Line). z.partner ≡ None) same c.free in
    let has = m.2 in absurd (cc))) ∙ m.2

stays_on : (ps : List Post) (ms : List Line) (i j : ℕ) → partner_at ms i ≡ Some j
    → partner_at (pairs_on ms ps) i ≡ Some j
stays_on [] ms i j h = h
stays_on (p ∷ ps) ms i j h = stays_on ps (add ms p) i j (stays_add ms p i j h)

pub order_laws : OrderLaws
order_laws = record {
  pairing = λ ps. subst (λ qs. IsPairing qs (partner_at (pairs ps))) (posts_pairs ps)
      (pairing_of (pairs ps) (good_on ps [] good_none));
  sends = λ ps. subst (λ qs. NoSendOvertakes qs (partner_at (pairs ps))) (posts_pairs ps)
      (sends_of (pairs ps) (good_on ps [] good_none));
  receives = λ ps. subst (λ qs. NoReceiveOvertakes qs (partner_at (pairs ps))) (posts_pairs ps)
      (receives_of (pairs ps) (good_on ps [] good_none));
  stays = λ ps qs i j h. subst (λ ms. partner_at ms i ≡ Some j) (sym (pairs_more ps qs []))
      (stays_on qs (pairs ps) i j h);
}
