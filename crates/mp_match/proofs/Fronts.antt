-- The first of four queues are those that a new send compares.
use Rattle.std.specs.Prelude.{ℕ, ◌+◌, ◌<◌, ◌≤◌, ◌≡◌, ◌==◌, ◌&&◌, ◌||◌, min, Bool, true, false, cond}
use Rattle.std.specs.Prelude.{List, [], ◌∷◌, Option, Some, None}
use Rattle.std.specs.List.{position_from, slice_get}
use Rattle.std.proofs.Common.{refl, sym, ap, ◌∙◌, arith}
use Rattle.mp_match.specs.declared.posts.Sent.{Sent}
use Rattle.mp_match.specs.declared.posts.Selection.{Selection}
use Rattle.mp_match.specs.declared.posts.Post.{Post}
use Rattle.mp_match.specs.declared.posts.Post.TheVariants.{Send, Receive, Claim}
use Rattle.mp_match.specs.declared.posts.Line.{Line}
use Rattle.mp_match.specs.Pairs.{accepts, admits, may_pair, is_free, fits, partner_for}
use Rattle.mp_match.specs.InnerQueued.{least}
use Rattle.mp_match.specs.Waiting.{same_option, same_key, is_key, key_of, key_with, receive_key, is_open_at}
use Rattle.mp_match.specs.Queues.{AreQueued}
use Rattle.mp_match.specs.Waiting.{first_waiting, one_if, compared_for}
use Rattle.mp_match.proofs.Places.{found}
use Rattle.mp_match.proofs.Queueing.{front_is}

-- the first place of either test is the least of both
least_none : (o : Option ℕ) → least o None ≡ o
least_none None = refl
least_none (Some a) = refl

pub least_is : (t u : Line → Bool) (i : ℕ) (ms : List Line)
    → position_from (λ m. t m || u m) i ms ≡ least (position_from t i ms) (position_from u i ms)
least_is t u i [] = refl
least_is t u i (m ∷ ms) =
    go (t m) (u m) (least_is t u (i + 1) ms) (position_from t (i + 1) ms) refl (position_from u (i + 1) ms) refl
  where
    above : (v : Line → Bool) (b : ℕ) → position_from v (i + 1) ms ≡ Some b → i < b
    above v b h = (let f = found v (i + 1) ms b h in let p = f.place in omega arith)

    first : (b : ℕ) → i < b → Some i ≡ Some (min i b)
    first b l = ap (λ n. Some n) (let s : i ≡ min i b = omega (arith, l) in s)

    last : (a : ℕ) → i < a → Some i ≡ Some (min a i)
    last a l = ap (λ n. Some n) (let s : i ≡ min a i = omega (arith, l) in s)

    go : (a b : Bool)
        → position_from (λ x. t x || u x) (i + 1) ms ≡ least (position_from t (i + 1) ms) (position_from u (i + 1) ms)
        → (p : Option ℕ) → position_from t (i + 1) ms ≡ p → (q : Option ℕ) → position_from u (i + 1) ms ≡ q
        → cond (a || b) (Some i) (position_from (λ x. t x || u x) (i + 1) ms)
        ≡ least (cond a (Some i) (position_from t (i + 1) ms)) (cond b (Some i) (position_from u (i + 1) ms))
    go true true h p e q f = ap (λ n. Some n) (let s : i ≡ min i i = omega arith in s)
    go true false h p e None f = sym (ap (least (Some i)) f)
    go true false h p e (Some b) f = first b (above u b f) ∙ sym (ap (least (Some i)) f)
    go false true h None e q f = sym (ap (λ o. least o (Some i)) e)
    go false true h (Some a) e q f = last a (above t a e) ∙ sym (ap (λ o. least o (Some i)) e)
    go false false h p e q f = h

pub position_ext : (t u : Line → Bool) → ((m : Line) → t m ≡ u m) → (i : ℕ) (ms : List Line)
    → position_from t i ms ≡ position_from u i ms
position_ext t u h i [] = refl
position_ext t u h i (m ∷ ms) = (λ j. cond (h m j) (Some i) (position_ext t u h (i + 1) ms j))

-- a receive accepts a send where its key is one of the send's four
both : (a b c d : Bool) → ((a && b) && c) && d
    ≡ ((a && (b && (c && d))) || (a && (b && (c && false))))
    || ((a && (b && (false && d))) || (a && (b && (false && false))))
both false b c d = refl
both true false c d = refl
both true true false d = refl
both true true true false = refl
both true true true true = refl

source_only : (a b c : Bool) → ((a && b) && c) && true
    ≡ ((a && (b && (c && false))) || (a && (b && (c && true))))
    || ((a && (b && (false && false))) || (a && (b && (false && true))))
source_only false b c = refl
source_only true false c = refl
source_only true true false = refl
source_only true true true = refl

tag_only : (a b d : Bool) → ((a && b) && true) && d
    ≡ ((a && (b && (false && d))) || (a && (b && (false && false))))
    || ((a && (b && (true && d))) || (a && (b && (true && false))))
tag_only false b d = refl
tag_only true false d = refl
tag_only true true false = refl
tag_only true true true = refl

neither : (a b : Bool) → ((a && b) && true) && true
    ≡ ((a && (b && (false && false))) || (a && (b && (false && true))))
    || ((a && (b && (true && false))) || (a && (b && (true && true))))
neither false b = refl
neither true false = refl
neither true true = refl

abbrev four : (Selection → Bool) → Sent → Bool
four f s =
    (f (key_with s (Some s.envelope.source) (Some s.envelope.tag)) || f (key_with s (Some s.envelope.source) None))
    || (f (key_with s None (Some s.envelope.tag)) || f (key_with s None None))

accepts_is : (a : Selection) (s : Sent) → accepts a s ≡ four (λ k. same_key k a) s
accepts_is a s = go a.source a.tag
  where
    go : (source tag : Option ℕ)
        → ((s.dest == a.rank) && (s.envelope.comm == a.comm) && admits source s.envelope.source
        && admits tag s.envelope.tag)
        ≡ four (λ k. (k.rank == a.rank)
        && ((k.comm == a.comm) && (same_option k.source source && same_option k.tag tag))) s
    go (Some x) (Some y) =
        both (s.dest == a.rank) (s.envelope.comm == a.comm) (s.envelope.source == x) (s.envelope.tag == y)
    go (Some x) None = source_only (s.dest == a.rank) (s.envelope.comm == a.comm) (s.envelope.source == x)
    go None (Some y) = tag_only (s.dest == a.rank) (s.envelope.comm == a.comm) (s.envelope.tag == y)
    go None None = neither (s.dest == a.rank) (s.envelope.comm == a.comm)

fits_four : (s : Sent) (m : Line) → fits (Send s) m ≡ four (λ k. is_open_at receive_key k m) s
fits_four s m = go (is_free m.partner) m.post
  where
    go : (b : Bool) (p : Post) → (b && may_pair (Send s) p) ≡ four (λ k. b && is_key k (receive_key p)) s
    go false p = refl
    go true (Send t) = refl
    go true (Claim a) = refl
    go true (Receive a) = accepts_is a s

module _ (f : Selection → List ℕ) (ms : List Line) (h : AreQueued receive_key f ms) where
  abbrev at : Selection → Line → Bool
  at k m = is_open_at receive_key k m

  pub front_waits : (k : Selection) → slice_get (f k) 0 ≡ first_waiting ms k
  front_waits k = ap (λ l. slice_get l 0) (h k) ∙ front_is (λ m. is_open_at receive_key k m) 0 ms

  module _ (s : Sent) where
    abbrev exact : Selection
    exact = key_of s

    abbrev any_tag : Selection
    any_tag = key_with s (Some s.envelope.source) None

    abbrev any_source : Selection
    any_source = key_with s None (Some s.envelope.tag)

    abbrev any : Selection
    any = key_with s None None

    -- the least of them is the partner of a new send
    pub send_partner : least (least (slice_get (f (key_of s)) 0)
        (slice_get (f (key_with s (Some s.envelope.source) None)) 0))
        (least (slice_get (f (key_with s None (Some s.envelope.tag))) 0) (slice_get (f (key_with s None None)) 0))
        ≡ partner_for ms (Send s)
    send_partner =
        (
        λ i. least (least (front_waits exact i) (front_waits any_tag i))
        (least (front_waits any_source i) (front_waits any i))
        )
        ∙ (
        λ i. least (sym (least_is (at exact) (at any_tag) 0 ms) i)
        (sym (least_is (at any_source) (at any) 0 ms) i)
        )
        ∙ sym (least_is (λ m. at exact m || at any_tag m) (λ m. at any_source m || at any m) 0 ms)
        ∙ sym (position_ext (fits (Send s)) (λ m. four (λ k. is_open_at receive_key k m) s) (fits_four s) 0 ms)

    -- as many are compared as there are
    pub fronts_compared : one_if (slice_get (f (key_of s)) 0)
        + one_if (slice_get (f (key_with s (Some s.envelope.source) None)) 0)
        + one_if (slice_get (f (key_with s None (Some s.envelope.tag))) 0)
        + one_if (slice_get (f (key_with s None None)) 0)
        ≡ compared_for ms s
    fronts_compared = (
        λ i. one_if (front_waits exact i) + one_if (front_waits any_tag i) + one_if (front_waits any_source i)
        + one_if (front_waits any i)
        )

few_at : (o : Option ℕ) → one_if o ≤ 1
few_at None = omega arith
few_at (Some place) = omega arith

pub few_compared : (ms : List Line) (s : Sent) → compared_for ms s ≤ 4
few_compared ms s =
    let a = few_at (first_waiting ms (key_of s)) in
    let b = few_at (first_waiting ms (key_with s (Some s.envelope.source) None)) in
    let c = few_at (first_waiting ms (key_with s None (Some s.envelope.tag))) in
    let d = few_at (first_waiting ms (key_with s None None)) in
    omega (arith, a, b, c, d)
