-- The queues of the posts without a partner, after one more post.
use Rattle.std.specs.Prelude.{ℕ, zero, suc, ◌+◌, ◌<◌, ◌≡◌, ◌==◌, ◌&&◌, Bool, true, false, cond}
use Rattle.std.specs.Prelude.{List, [], ◌∷◌, ◌++◌, length, Option, Some, None}
use Rattle.std.specs.Prelude.{drop}
use Rattle.std.specs.List.{position_from, slice_get}
use Rattle.std.proofs.Common.{refl, sym, ap, ◌∙◌, subst, arith, append-nil, zero-add}
use Rattle.std.proofs.lemmas.Bool.{and_parts, false_from_ne_true}
use Rattle.std.proofs.lemmas.Option.{same_Some}
use Rattle.mp_match.specs.declared.posts.Sent.{Sent}
use Rattle.mp_match.specs.declared.posts.Selection.{Selection}
use Rattle.mp_match.specs.declared.posts.Post.{Post}
use Rattle.mp_match.specs.declared.posts.Post.TheVariants.{Send, Receive, Claim}
use Rattle.mp_match.specs.declared.posts.Line.{Line}
use Rattle.mp_match.specs.Pairs.{accepts, admits, may_pair, is_free, partner_for, partner_set, partners_told, add}
use Rattle.mp_match.specs.Waiting.{same_key, is_key, key_of, receive_key, is_open_at}
use Rattle.mp_match.specs.Queues.{message_key, places, AreQueued}
use Rattle.mp_match.specs.InnerLive.{post_at}
use Rattle.mp_match.specs.InnerQueues.{pushed, popped}
use Rattle.mp_match.proofs.Lines.{given}
use Rattle.mp_match.proofs.OrderKept.{chosen, free_none}
use Rattle.mp_match.proofs.Keys.{key_same, is_key_some}
use Rattle.mp_match.proofs.Partners.{no_partner}

-- the first of a queue is the first place that passes
pub front_is : (t : Line → Bool) (i : ℕ) (ms : List Line) → slice_get (places t i ms) 0 ≡ position_from t i ms
front_is t i [] = refl
front_is t i (m ∷ ms) = go (t m) (front_is t (i + 1) ms)
  where
    go : (b : Bool) → slice_get (places t (i + 1) ms) 0 ≡ position_from t (i + 1) ms
        → slice_get (cond b (i ∷ places t (i + 1) ms) (places t (i + 1) ms)) 0
        ≡ cond b (Some i) (position_from t (i + 1) ms)
    go true h = refl
    go false h = h

-- ---- one more line

places_snoc : (t : Line → Bool) (i : ℕ) (ms : List Line) (m : Line)
    → places t i (ms ++ m ∷ []) ≡ places t i ms ++ cond (t m) ((i + length ms) ∷ []) []
places_snoc t i [] m = go (t m)
  where
    go : (b : Bool) → cond b (i ∷ []) [] ≡ cond b ((i + 0) ∷ []) []
    go true = ap (λ n. n ∷ []) (let e : i ≡ i + 0 = omega arith in e)
    go false = refl
places_snoc t i (x ∷ ms) m =
    go (t x)
    (places_snoc t (i + 1) ms m
    ∙ ap (λ n. places t (i + 1) ms ++ cond (t m) (n ∷ []) [])
    (let e : (i + 1) + length ms ≡ i + suc (length ms) = omega arith in e))
  where
    go : (b : Bool)
        → places t (i + 1) (ms ++ m ∷ []) ≡ places t (i + 1) ms ++ cond (t m) ((i + suc (length ms)) ∷ []) []
        → cond b (i ∷ places t (i + 1) (ms ++ m ∷ [])) (places t (i + 1) (ms ++ m ∷ []))
        ≡ cond b (i ∷ places t (i + 1) ms) (places t (i + 1) ms) ++ cond (t m) ((i + suc (length ms)) ∷ []) []
    go true h = ap (λ l. i ∷ l) h
    go false h = h

places_skip : (t : Line → Bool) (ms : List Line) (m : Line) → t m ≡ false → places t 0 (ms ++ m ∷ []) ≡ places t 0 ms
places_skip t ms m out =
    places_snoc t 0 ms m ∙ ap (λ b. places t 0 ms ++ cond b ((0 + length ms) ∷ []) []) out ∙ append-nil (places t 0 ms)

places_more : (t : Line → Bool) (ms : List Line) (m : Line) → t m ≡ true
    → places t 0 (ms ++ m ∷ []) ≡ places t 0 ms ++ length ms ∷ []
places_more t ms m within =
    places_snoc t 0 ms m ∙ ap (λ b. places t 0 ms ++ cond b ((0 + length ms) ∷ []) []) within
    ∙ ap (λ n. places t 0 ms ++ n ∷ []) (zero-add (length ms))

-- ---- a line that is given a partner

places_other : (t : Line → Bool) (i : ℕ) (ms : List Line) (q n : ℕ) (x : Line) → slice_get ms q ≡ Some x
    → t x ≡ false → t (given x n) ≡ false
    → places t i (partner_set ms q n) ≡ places t i ms
places_other t i [] q n x h e g = refl
places_other t i (m ∷ ms) zero n x h e g =
    let same : m ≡ x = (cc) in (
    λ j. cond ((ap (λ (y : Line). t (given y n)) same ∙ g ∙ sym e ∙ sym (ap t same)) j) (i ∷ places t (i + 1) ms)
    (places t (i + 1) ms)
    )
places_other t i (m ∷ ms) (suc q) n x h e g =
    ap (λ l. cond (t m) (i ∷ l) l) (places_other t (i + 1) ms q n x h e g)

places_first : (t : Line → Bool) (i : ℕ) (ms : List Line) (q n : ℕ) (x : Line) → slice_get ms q ≡ Some x
    → t x ≡ true → t (given x n) ≡ false
    → ((l : ℕ) (y : Line) → l < q → slice_get ms l ≡ Some y → t y ≡ false)
    → places t i (partner_set ms q n) ≡ drop 1 (places t i ms)
places_first t i [] q n x h e g before = absurd (cc)
places_first t i (m ∷ ms) zero n x h e g before =
    let same : m ≡ x = (cc) in
    ap (λ b. cond b (i ∷ places t (i + 1) ms) (places t (i + 1) ms)) (ap (λ (y : Line). t (given y n)) same ∙ g)
    ∙ ap (λ b. drop 1 (cond b (i ∷ places t (i + 1) ms) (places t (i + 1) ms))) (sym (ap t same ∙ e))
places_first t i (m ∷ ms) (suc q) n x h e g before =
    let out : t m ≡ false = before 0 m (omega arith) refl in
    ap (λ b. cond b (i ∷ places t (i + 1) (partner_set ms q n)) (places t (i + 1) (partner_set ms q n))) out
    ∙ places_first t (i + 1) ms q n x h e g (λ l y b s. before (suc l) y (omega (arith, b)) s)
    ∙ ap (λ b. drop 1 (cond b (i ∷ places t (i + 1) ms) (places t (i + 1) ms))) (sym out)

-- ---- posts of one key may be partners of the same posts

abbrev pub AreAlike : (Post → Option Selection) → Type 0
AreAlike key = (p x y : Post) (k : Selection) → key x ≡ Some k → key y ≡ Some k → may_pair p x ≡ may_pair p y

accepts_alike : (a : Selection) (s t : Sent) → key_of s ≡ key_of t → accepts a s ≡ accepts a t
accepts_alike a s t e =
    let d : s.dest ≡ t.dest = ap (λ (k : Selection). k.rank) e in
    let c : s.envelope.comm ≡ t.envelope.comm = ap (λ (k : Selection). k.comm) e in
    let o : s.envelope.source ≡ t.envelope.source = same_Some _ _ (ap (λ (k : Selection). k.source) e) in
    let g : s.envelope.tag ≡ t.envelope.tag = same_Some _ _ (ap (λ (k : Selection). k.tag) e) in
    λ i. (d i == a.rank) && (c i == a.comm) && admits a.source (o i) && admits a.tag (g i)

pub messages_alike : AreAlike message_key
messages_alike p (Receive a) y k e f = absurd (cc)
messages_alike p (Claim a) y k e f = absurd (cc)
messages_alike p (Send s) (Receive a) k e f = absurd (cc)
messages_alike p (Send s) (Claim a) k e f = absurd (cc)
messages_alike (Send u) (Send s) (Send t) k e f = refl
messages_alike (Receive a) (Send s) (Send t) k e f = accepts_alike a s t (same_Some _ _ (e ∙ sym f))
messages_alike (Claim a) (Send s) (Send t) k e f = accepts_alike a s t (same_Some _ _ (e ∙ sym f))

pub receives_alike : AreAlike receive_key
receives_alike p (Send s) y k e f = absurd (cc)
receives_alike p (Claim a) y k e f = absurd (cc)
receives_alike p (Receive a) (Send s) k e f = absurd (cc)
receives_alike p (Receive a) (Claim b) k e f = absurd (cc)
receives_alike p (Receive a) (Receive b) k e f =
    ap (λ (z : Selection). may_pair p (Receive z)) (same_Some _ _ (e ∙ sym f))

-- ---- the queues of one kind

module _ (key : Post → Option Selection) (f : Selection → List ℕ) (ms : List Line) (h : AreQueued key f ms) where
  -- a new post without a partner stands behind the others of its key
  queued_push : (p : Post)
      → AreQueued key (pushed f (key p) (length ms)) (ms ++ record { post = p; partner = None } ∷ [])
  queued_push p k = go (key p) refl
    where
      line : Line
      line = record { post = p; partner = None }

      at : (q : Selection) (b : Bool) → same_key k q ≡ b → key p ≡ Some q
          → cond b (f q ++ length ms ∷ []) (f k) ≡ places (is_open_at key k) 0 (ms ++ line ∷ [])
      at q true same e =
          ap (λ (z : Selection). f z ++ length ms ∷ []) (sym (key_same k q same))
          ∙ ap (λ l. l ++ length ms ∷ []) (h k)
          ∙ sym (places_more (is_open_at key k) ms line (ap (is_key k) e ∙ same))
      at q false other e = h k ∙ sym (places_skip (is_open_at key k) ms line (ap (is_key k) e ∙ other))

      go : (o : Option Selection) → key p ≡ o
          → pushed f o (length ms) k ≡ places (is_open_at key k) 0 (ms ++ line ∷ [])
      go None e = h k ∙ sym (places_skip (is_open_at key k) ms line (ap (is_key k) e))
      go (Some q) e = at q (same_key k q) refl e

  -- so `g`, the queues after it was put there, are right; `x` is the post itself, of a known kind
  pub entered : {p x : Post} {place : ℕ} {partner : Option Post} {g : Selection → List ℕ} → p ≡ x → place ≡ length ms
      → partner ≡ None → partner ≡ post_at ms (partner_for ms p)
      → ((k : Selection) → g k ≡ pushed f (key x) place k)
      → AreQueued key g (add ms p)
  entered {p} {x} {place} is here none there after k =
      after k ∙ (λ i. pushed f (key (sym is i)) (here i) k)
      ∙ subst (λ o. AreQueued key (pushed f (key p) (length ms))
      (partners_told ms o ++ record { post = p; partner = o } ∷ []))
      (no_partner ms p (sym none ∙ there)) (queued_push p) k

  -- a new post with a partner stands in no queue
  queued_skip : (p : Post) (j : ℕ) → AreQueued key f (ms ++ record { post = p; partner = Some j } ∷ [])
  queued_skip p j k = h k ∙ sym (places_skip (is_open_at key k) ms (record { post = p; partner = Some j }) refl)

  -- what is given a partner was the first of its queue, and leaves it
  queued_pop : (q n : ℕ) (x : Line) → slice_get ms q ≡ Some x → x.partner ≡ None
      → ((k : Selection) (l : ℕ) (y : Line) → key x.post ≡ Some k → l < q → slice_get ms l ≡ Some y → y.partner ≡ None
      → key y.post ≡ Some k → ⊥)
      → AreQueued key (popped f (key x.post)) (partner_set ms q n)
  queued_pop q n x here free first k = go (key x.post) refl
    where
      none_before : (r : Selection) → key x.post ≡ Some r → (l : ℕ) (y : Line) → l < q → slice_get ms l ≡ Some y
          → is_open_at key r y ≡ false
      none_before r e l y below there = false_from_ne_true (is_open_at key r y) (λ held.
          let w = and_parts (is_free y.partner) (is_key r (key y.post)) held in
          first r l y e below there (free_none y.partner w.0) (is_key_some r (key y.post) w.1))

      at : (r : Selection) (b : Bool) → same_key k r ≡ b → key x.post ≡ Some r
          → cond b (drop 1 (f r)) (f k) ≡ places (is_open_at key k) 0 (partner_set ms q n)
      at r true same e =
          let s : k ≡ r = key_same k r same in
          let opened : is_open_at key k x ≡ true = (λ i. is_free (free i) && (ap (is_key k) e ∙ same) i) in
          ap (λ (z : Selection). drop 1 (f z)) (sym s) ∙ ap (λ l. drop 1 l) (h k)
          ∙ sym (places_first (is_open_at key k) 0 ms q n x here opened refl
          (none_before k (e ∙ ap (λ (z : Selection). Some z) (sym s))))
      at r false other e =
          h k ∙ sym (places_other (is_open_at key k) 0 ms q n x here
          (λ i. is_free (free i) && (ap (is_key k) e ∙ other) i) refl)

      go : (o : Option Selection) → key x.post ≡ o
          → popped f o k ≡ places (is_open_at key k) 0 (partner_set ms q n)
      go None e =
          h k ∙ sym (places_other (is_open_at key k) 0 ms q n x here (λ i. is_free (free i) && ap (is_key k) e i) refl)
      go (Some r) e = at r (same_key k r) refl e

module _ (key : Post → Option Selection) (alike : AreAlike key) (f : Selection → List ℕ) (ms : List Line) (p : Post)
    (h : AreQueued key f ms) where
  pub left : (q : ℕ) (x : Line) → Some q ≡ partner_for ms p → slice_get ms q ≡ Some x
      → AreQueued key (popped f (key x.post)) (add ms p)
  left q x found here =
      let c = chosen ms p q (sym found) in
      let same : c.line ≡ x = same_Some _ _ (sym c.here ∙ here) in
      let free : x.partner ≡ None = subst (λ (z : Line). z.partner ≡ None) same c.free in
      let fits : may_pair p x.post ≡ true = subst (λ (z : Line). may_pair p z.post ≡ true) same c.pair in
      subst (λ o. AreQueued key (popped f (key x.post)) (partners_told ms o ++ record { post = p; partner = o } ∷ []))
      found
      (queued_skip key (popped f (key x.post)) (partner_set ms q (length ms))
      (queued_pop key f ms h q (length ms) x here free (λ k l y mine below there free_y yours.
      c.least l y below there free_y (alike p y.post x.post k yours mine ∙ fits)))
      p q)
