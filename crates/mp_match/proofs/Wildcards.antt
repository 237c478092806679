-- A receive or a claim takes the least of the first messages that it accepts.
use Rattle.std.specs.Prelude.{ℕ, suc, ◌+◌, ◌≡◌, ◌==◌, ◌&&◌, ◌||◌, Bool, true, false, cond}
use Rattle.std.specs.Prelude.{List, [], ◌∷◌, Option, Some, None}
use Rattle.std.specs.List.{position_from, slice_get, list_any}
use Rattle.std.specs.Map.{lookup}
use Rattle.std.specs.Cmp.{both_ways}
use Rattle.std.specs.Ordering.{is_eq}
use Rattle.std.specs.BTreeMap as tree
use Rattle.std.specs.declared.collections.VecDeque.{VecDeque}
use Rattle.std.specs.declared.alloc.Global.{Global}
use Rattle.std.proofs.Common.{refl, sym, ap, ◌∙◌, subst}
use Rattle.std.proofs.lemmas.Bool.{and_parts, and_from, or_left, or_right}
use Rattle.std.proofs.lemmas.Map.Entries.{btree_map_get_place}
use Rattle.mp_match.specs.declared.posts.Sent.{Sent}
use Rattle.mp_match.specs.declared.posts.Selection.{Selection}
use Rattle.mp_match.specs.declared.posts.Post.{Post}
use Rattle.mp_match.specs.declared.posts.Post.TheVariants.{Send, Receive, Claim}
use Rattle.mp_match.specs.declared.posts.Line.{Line}
use Rattle.mp_match.specs.contracts.posts.SelectionOrd.TheImpl.Laws.{total-law}
use Rattle.mp_match.specs.Pairs.{accepts, admits, may_pair, is_free, fits, partner_for}
use Rattle.mp_match.specs.Queued.{Keyed, selection_cmp, queue, places_in}
use Rattle.mp_match.specs.InnerQueued.{Entry, least, least_accepted, accepts_key}
use Rattle.mp_match.specs.Waiting.{same_option, same_key, is_key, key_of, is_open_at}
use Rattle.mp_match.specs.Queues.{message_key, places, AreQueued}
use Rattle.mp_match.proofs.Places.{found_none}
use Rattle.mp_match.proofs.Queueing.{front_is}
use Rattle.mp_match.proofs.Fronts.{least_is, position_ext}
use Rattle.mp_match.proofs.Keys.{cmp_is, key_flip, key_refl, is_key_some}

abbrev opened : Selection → Line → Bool
opened k x = is_open_at message_key k x

abbrev entry_test : Selection → Line → Entry → Bool
entry_test a x e = accepts_key a e.0 && opened e.0 x

abbrev any_test : Selection → List Entry → Line → Bool
any_test a es x = list_any (entry_test a x) es

or_none : (b : Bool) → b ≡ (b || false)
or_none true = refl
or_none false = refl

or_group : (a b c : Bool) → ((a || b) || c) ≡ (a || (b || c))
or_group true b c = refl
or_group false b c = refl

abbrev HaveFirst : List Line → List Entry → Type 0
HaveFirst ms es = (i : ℕ) (e : Entry) → slice_get es i ≡ Some e
    → slice_get (e.1).items 0 ≡ position_from (opened e.0) 0 ms

least_accepted_is : (a : Selection) (ms : List Line) (es : List Entry) (o : Option ℕ) (t : Line → Bool)
    → o ≡ position_from t 0 ms → HaveFirst ms es
    → least_accepted a o es ≡ position_from (λ x. t x || any_test a es x) 0 ms
least_accepted_is a ms [] o t h f = h ∙ position_ext t (λ x. t x || false) (λ x. or_none (t x)) 0 ms
least_accepted_is a ms (e ∷ es) o t h f =
    go (accepts_key a e.0) (λ p u g. least_accepted_is a ms es p u g (λ i d s. f (suc i) d s))
  where
    go : (b : Bool)
        → ((p : Option ℕ) (u : Line → Bool) → p ≡ position_from u 0 ms
        → least_accepted a p es ≡ position_from (λ x. u x || any_test a es x) 0 ms)
        → least_accepted a (cond b (least o (slice_get (e.1).items 0)) o) es
        ≡ position_from (λ x. t x || ((b && opened e.0 x) || any_test a es x)) 0 ms
    go false rec = rec o t h
    go true rec =
        rec (least o (slice_get (e.1).items 0)) (λ x. t x || opened e.0 x)
        ((λ i. least (h i) (f 0 e refl i)) ∙ sym (least_is t (opened e.0) 0 ms))
        ∙ position_ext (λ x. (t x || opened e.0 x) || any_test a es x) (λ x. t x || (opened e.0 x || any_test a es x))
        (λ x. or_group (t x) (opened e.0 x) (any_test a es x)) 0 ms

position_never : (i : ℕ) (ms : List Line) → None ≡ position_from (λ x. false) i ms
position_never i [] = refl
position_never i (m ∷ ms) = position_never (i + 1) ms

position_ext_in : (t u : Line → Bool) (i : ℕ) (ms : List Line)
    → ((l : ℕ) (x : Line) → slice_get ms l ≡ Some x → t x ≡ u x)
    → position_from t i ms ≡ position_from u i ms
position_ext_in t u i [] h = refl
position_ext_in t u i (m ∷ ms) h = (
    λ j. cond (h 0 m refl j) (Some i) (position_ext_in t u (i + 1) ms (λ l x s. h (suc l) x s) j)
    )

accepts_key_is : (a : Selection) (s : Sent) → accepts_key a (key_of s) ≡ accepts a s
accepts_key_is a s = refl

any_elim : {P : Type 0} (f : Entry → Bool) (es : List Entry) → list_any f es ≡ true → ((e : Entry) → f e ≡ true → P)
    → P
any_elim f [] h k = absurd (cc)
any_elim {P} f (e ∷ es) h k = go (f e) refl h (λ g. any_elim f es g k)
  where
    go : (b : Bool) → f e ≡ b → (b || list_any f es) ≡ true → (list_any f es ≡ true → P) → P
    go true q h rec = k e q
    go false q h rec = rec h

any_from_lookup : (f : Entry → Bool) (key : Selection) (es : List Entry) (v : VecDeque ℕ Global)
    → lookup (λ k. is_eq (selection_cmp key k)) es ≡ Some v
    → ((e : Entry) → same_key e.0 key ≡ true → f e ≡ true) → list_any f es ≡ true
any_from_lookup f key [] v h k = absurd (cc)
any_from_lookup f key (e ∷ es) v h k =
    go (is_eq (selection_cmp key e.0)) refl h (λ g. any_from_lookup f key es v g k)
  where
    go : (b : Bool) → is_eq (selection_cmp key e.0) ≡ b
        → cond b (Some e.1) (lookup (λ q. is_eq (selection_cmp key q)) es) ≡ Some v
        → (lookup (λ q. is_eq (selection_cmp key q)) es ≡ Some v → list_any f es ≡ true)
        → (f e || list_any f es) ≡ true
    go true q h rec = or_left (f e) (list_any f es) (k e (sym (cmp_is key e.0) ∙ q))
    go false q h rec = or_right (f e) (list_any f es) (rec h)

module _ (m : Keyed) (ms : List Line) (a : Selection) (h : AreQueued message_key (queue m) ms) where
  -- the key of a message without a partner has a queue
  has_queue : (k : Selection) (l : ℕ) (x : Line) → slice_get ms l ≡ Some x → opened k x ≡ true
      → (v : VecDeque ℕ Global) × (tree.get selection_cmp m k ≡ Some v)
  has_queue k l x here open_here = go (tree.get selection_cmp m k) refl
    where
      go : (o : Option (VecDeque ℕ Global)) → tree.get selection_cmp m k ≡ o → (v : VecDeque ℕ Global) × (o ≡ Some v)
      go (Some v) e = (v, refl)
      go None e =
          let empty : places (opened k) 0 ms ≡ [] = sym (h k) ∙ ap places_in e in
          let none : position_from (opened k) 0 ms ≡ None =
          sym (front_is (opened k) 0 ms) ∙ ap (λ l. slice_get l 0) empty in
          let no = found_none (opened k) 0 ms none l x here in absurd (cc)

  not_a_send : (p : Post) (b : Bool) → (b && may_pair (Receive a) p) ≡ true → may_pair (Receive a) p ≡ false → ⊥
  not_a_send p b held out = (let w = and_parts b (may_pair (Receive a) p) held in absurd (cc))

  meets : (l : ℕ) (x : Line) → slice_get ms l ≡ Some x → fits (Receive a) x ≡ any_test a m.entries x
  meets l x here = both_ways (fits (Receive a) x) (any_test a m.entries x) (λ held. there x.post refl held) back
    where
      there : (p : Post) → x.post ≡ p → (is_free x.partner && may_pair (Receive a) x.post) ≡ true
          → any_test a m.entries x ≡ true
      there (Receive b) e held = absurd (not_a_send x.post (is_free x.partner) held (ap (may_pair (Receive a)) e))
      there (Claim b) e held = absurd (not_a_send x.post (is_free x.partner) held (ap (may_pair (Receive a)) e))
      there (Send s) e held =
          let w = and_parts (is_free x.partner) (may_pair (Receive a) x.post) held in
          let acc : accepts a s ≡ true = sym (ap (may_pair (Receive a)) e) ∙ w.1 in
          let at : (k : Selection) → same_key k (key_of s) ≡ true → opened k x ≡ true =
          λ k same. and_from (is_free x.partner) (is_key k (message_key x.post)) w.0
          (ap (λ p. is_key k (message_key p)) e ∙ same) in
          let q = has_queue (key_of s) l x here (at (key_of s) (key_refl (key_of s))) in
          any_from_lookup (entry_test a x) (key_of s) m.entries q.0 q.1 (λ d same.
          and_from (accepts_key a d.0) (opened d.0 x)
          (subst (λ (o : Option Selection). accepts_of o ≡ true) (is_key_some d.0 (Some (key_of s)) same) acc)
          (at d.0 same))
        where
          accepts_of : Option Selection → Bool
          accepts_of None = false
          accepts_of (Some k) = accepts_key a k

      from : (k : Selection) (p : Post) → x.post ≡ p → accepts_key a k ≡ true → opened k x ≡ true
          → fits (Receive a) x ≡ true
      from k (Receive b) e acc open_here =
          (let w = and_parts (is_free x.partner) (is_key k (message_key x.post)) open_here in
          let n = ap (λ p. is_key k (message_key p)) e in absurd (cc))
      from k (Claim b) e acc open_here =
          (let w = and_parts (is_free x.partner) (is_key k (message_key x.post)) open_here in
          let n = ap (λ p. is_key k (message_key p)) e in absurd (cc))
      from k (Send s) e acc open_here =
          let w = and_parts (is_free x.partner) (is_key k (message_key x.post)) open_here in
          let same : Some (key_of s) ≡ Some k =
          is_key_some k (Some (key_of s)) (sym (ap (λ p. is_key k (message_key p)) e) ∙ w.1) in
          and_from (is_free x.partner) (may_pair (Receive a) x.post) w.0
          (ap (may_pair (Receive a)) e
          ∙ subst (λ (o : Option Selection). accepts_of o ≡ true) (sym same) acc)
        where
          accepts_of : Option Selection → Bool
          accepts_of None = false
          accepts_of (Some q) = accepts_key a q

      back : any_test a m.entries x ≡ true → fits (Receive a) x ≡ true
      back held = any_elim (entry_test a x) m.entries held (λ e t.
          let w = and_parts (accepts_key a e.0) (opened e.0 x) t in from e.0 x.post refl w.0 w.1)

  pub least_partner : tree.IsOrdered selection_cmp m
      → least_accepted a None m.entries ≡ partner_for ms (Receive a)
  least_partner ordered =
      least_accepted_is a ms m.entries None (λ x. false) (position_never 0 ms) (λ i e s.
      sym (ap (λ l. slice_get l 0) (ap places_in (btree_map_get_place total-law m i e.0 e.1 ordered s)))
      ∙ ap (λ l. slice_get l 0) (h e.0) ∙ front_is (opened e.0) 0 ms)
      ∙ sym (position_ext_in (fits (Receive a)) (any_test a m.entries) 0 ms meets)

-- ---- a receive of one source and one tag

regroup : (a b c d : Bool) → a && (b && (c && d)) ≡ ((a && b) && c) && d
regroup false b c d = refl
regroup true false c d = refl
regroup true true c d = refl

pub exact_partner : (f : Selection → List ℕ) (ms : List Line) (a : Selection) (x y : ℕ)
    → a.source ≡ Some x → a.tag ≡ Some y → AreQueued message_key f ms
    → slice_get (f a) 0 ≡ partner_for ms (Receive a)
exact_partner f ms a x y source tag h =
    ap (λ l. slice_get l 0) (h a) ∙ front_is (opened a) 0 ms
    ∙ position_ext (opened a) (fits (Receive a)) (λ m. test (is_free m.partner) m.post) 0 ms
  where
    accept : (s : Sent) → same_key a (key_of s) ≡ accepts a s
    accept s =
        key_flip a (key_of s)
        ∙ (
        λ i. (s.dest == a.rank) && ((s.envelope.comm == a.comm)
        && (same_option (Some s.envelope.source) (source i) && same_option (Some s.envelope.tag) (tag i)))
        )
        ∙ regroup (s.dest == a.rank) (s.envelope.comm == a.comm) (s.envelope.source == x) (s.envelope.tag == y)
        ∙ (
        λ i. (s.dest == a.rank) && (s.envelope.comm == a.comm) && admits (sym source i) s.envelope.source
        && admits (sym tag i) s.envelope.tag
        )

    test : (b : Bool) (p : Post) → (b && is_key a (message_key p)) ≡ (b && may_pair (Receive a) p)
    test false p = refl
    test true (Receive b) = refl
    test true (Claim b) = refl
    test true (Send s) = accept s

-- a claim takes what a receive would be given
pub claim_partner : (ms : List Line) (a : Selection) → partner_for ms (Receive a) ≡ partner_for ms (Claim a)
claim_partner ms a = position_ext (fits (Receive a)) (fits (Claim a)) (λ m. go (is_free m.partner) m.post) 0 ms
  where
    go : (b : Bool) (p : Post) → (b && may_pair (Receive a) p) ≡ (b && may_pair (Claim a) p)
    go b (Send s) = refl
    go b (Receive c) = refl
    go b (Claim c) = refl
