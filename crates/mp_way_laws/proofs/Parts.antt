-- What has a partner has the same one once all has arrived.
use Rattle.std.specs.Prelude.{ℕ, zero, suc, ◌<◌, ◌≡◌, ◌⊎◌, Bool, true, false, cond, List, [], ◌∷◌, ◌++◌, length, Option, Some, None}
use Rattle.std.specs.List.{slice_get}
use Rattle.std.proofs.Common.{refl, sym, ap, ◌∙◌, subst, arith}
use Rattle.std.proofs.lemmas.Bool.{and_parts, cases_order}
use Rattle.std.proofs.lemmas.Option.{same_Some}
use mathlib.Core.Logic.{inl, inr}
use Rattle.mp_match.specs.declared.posts.Sent.{Sent}
use Rattle.mp_match.specs.declared.posts.Selection.{Selection}
use Rattle.mp_match.specs.declared.posts.Post.{Post}
use Rattle.mp_match.specs.declared.posts.Post.TheVariants.{Send, Receive, Claim}
use Rattle.mp_match.specs.declared.posts.Line.{Line}
use Rattle.mp_match.specs.Pairs.{accepts, add, fits, is_free, may_pair, partner_at, partner_for, partner_of_line}
use Rattle.mp_match.specs.PostPairs.{pairs, posts_of}
use Rattle.mp_match.specs.Order.{ReceivesAt, SendsAt}
use Rattle.mp_match.specs.Matches.{IsAskedFor}
use Rattle.mp_match.proofs.Places.{found_none, get_front, get_last, get_snoc, get_within}
use Rattle.mp_match.proofs.Lines.{add_new}
use Rattle.mp_match.proofs.Matched.{line_at, matching}
use Rattle.mp_match.proofs.OrderKept.{Chosen, Good, chosen, good_none, good_on, order_laws, posts_pairs}
use Rattle.mp_hub.proofs.BoardKept.{pairs_snoc}
use Rattle.mp_way_laws.specs.Way.{HasArrived, IsSameBox, add_with, first_found, fits_in, joined}
use Rattle.mp_way_laws.specs.Runs.{IsNamed}
use Rattle.mp_way_laws.proofs.Crossing.{uncrossed}
use Rattle.mp_way_laws.proofs.Joined.{Look, Met, first_at, given_at, is_first, is_given, is_new, is_old, is_second, kept_at, look, met, new_at, none_after, none_before, none_joined, none_kept, old_at, posts_joined, posts_length, posts_with, second_at, was_met}

-- ---- lines and their posts

pub post_at : (ms : List Line) (i : ℕ) (m : Line) → slice_get ms i ≡ Some m → slice_get (posts_of ms) i ≡ Some m.post
post_at [] i m h = absurd (cc)
post_at (x ∷ ms) zero m h = (let e : x ≡ m = (cc) in ap (λ (y : Line). Some y.post) e)
post_at (x ∷ ms) (suc i) m h = post_at ms i m h

fits_if : (p : Post) (m : Line) → m.partner ≡ None → may_pair p m.post ≡ true → fits p m ≡ true
fits_if p m e h = rw (e, h) refl

free_if : (o : Option ℕ) → is_free o ≡ true → o ≡ None
free_if None e = refl
free_if (Some k) e = absurd (cc)

-- a send may have a receive that accepts it, and a receive a send that it accepts
wanted_by : (s : Sent) (p : Post) → may_pair (Send s) p ≡ true
    → (a : Selection) × (p ≡ Receive a) × (accepts a s ≡ true)
wanted_by s (Send t) h = absurd (cc)
wanted_by s (Receive a) h = (a, refl, h)
wanted_by s (Claim a) h = absurd (cc)

pub wants : (a : Selection) (p : Post) → may_pair (Receive a) p ≡ true
    → (s : Sent) × (p ≡ Send s) × (accepts a s ≡ true)
wants a (Send s) h = (s, refl, h)
wants a (Receive b) h = absurd (cc)
wants a (Claim b) h = absurd (cc)

-- two sends that a receive of a named source accepts are of one outbox
one_source : (o : Option ℕ) (x y : ℕ) → IsNamed o → IsAskedFor o x → IsAskedFor o y → x ≡ y
one_source None x y named f g = absurd named
one_source (Some z) x y named (inl f) g = absurd (cc)
one_source (Some z) x y named (inr f) (inl g) = absurd (cc)
one_source (Some z) x y named (inr f) (inr g) = same_Some x y (sym f ∙ g)

pub same_box : (a : Selection) (s t : Sent) → IsNamed a.source → accepts a s ≡ true → accepts a t ≡ true → IsSameBox s t
same_box a s t named h g =
    let m = matching a s h in
    let n = matching a t g in
    record {
      source = one_source a.source s.envelope.source t.envelope.source named m.source n.source;
      dest = m.rank ∙ sym n.rank;
      comm = m.comm ∙ sym n.comm;
    }

-- ---- partners once all has arrived

module _ (ps : List Post) (claims : (i : ℕ) (a : Selection) → slice_get ps i ≡ Some (Claim a) → ⊥) where
  abbrev pub then : ℕ → Option ℕ
  then = partner_at (pairs ps)

  good : Good (pairs ps)
  good = good_on ps [] good_none

  pub line_then : (i : ℕ) (p : Post) → slice_get ps i ≡ Some p
      → (m : Line) × (slice_get (pairs ps) i ≡ Some m) × (m.post ≡ p)
  line_then i p h = line_at (pairs ps) i p (subst (λ qs. slice_get qs i ≡ Some p) (sym (posts_pairs ps)) h)

  pub post_then : (i : ℕ) (m : Line) → slice_get (pairs ps) i ≡ Some m → slice_get ps i ≡ Some m.post
  post_then i m h = subst (λ qs. slice_get qs i ≡ Some m.post) (posts_pairs ps) (post_at (pairs ps) i m h)

  one_post : (i : ℕ) (p q : Post) → slice_get ps i ≡ Some p → slice_get ps i ≡ Some q → p ≡ q
  one_post i p q h g = same_Some p q (sym h ∙ g)

  pub back_then : (i j : ℕ) → then i ≡ Some j → then j ≡ Some i
  back_then i j h = (order_laws.pairing ps i j h).0

  -- who has the message of a send
  pub receiver : (u r : ℕ) (s : Sent) → SendsAt ps u s → then u ≡ Some r
      → (b : Selection) × ReceivesAt ps r b × (accepts b s ≡ true)
  receiver u r s is h =
      let x = (order_laws.pairing ps u r h).1 in
      elim x.3 [
        | inl f ↦ elim f.0 [
          | inl g ↦ (let e = one_post u (Send s) (Receive x.0) is g in absurd (cc))
          | inr g ↦ absurd (claims u x.0 g)
        ]
        | inr f ↦
            let e = one_post u (Send s) (Send x.1) is f.0 in
            let same : x.1 ≡ s = (cc) in
            elim f.1 [
              | inl g ↦ (x.0, g, subst (λ t. accepts x.0 t ≡ true) same x.2)
              | inr g ↦ absurd (claims r x.0 g)
            ]
      ]

  -- whose message a receive has
  pub sender : (q v : ℕ) (a : Selection) → ReceivesAt ps q a → then q ≡ Some v
      → (t : Sent) × SendsAt ps v t × (accepts a t ≡ true)
  sender q v a is h =
      let x = (order_laws.pairing ps q v h).1 in
      elim x.3 [
        | inl f ↦ elim f.0 [
          | inl g ↦
              let e = one_post q (Receive a) (Receive x.0) is g in
              let same : x.0 ≡ a = (cc) in
              (x.1, f.1, subst (λ b. accepts b x.1 ≡ true) same x.2)
          | inr g ↦ absurd (claims q x.0 g)
        ]
        | inr f ↦ (let e = one_post q (Receive a) (Send x.1) is f.0 in absurd (cc))
      ]

  pub idle_then : (i j : ℕ) (a : Selection) (s : Sent) → ReceivesAt ps i a → SendsAt ps j s → then i ≡ None
      → then j ≡ None
      → accepts a s ≡ true → ⊥
  idle_then i j a s receives sends none alone acc =
      let l = line_then i (Receive a) receives in
      let m = line_then j (Send s) sends in
      good.idle i j l.0 m.0 a s l.1 m.1 (sym (ap partner_of_line l.1) ∙ none)
      (sym (ap partner_of_line m.1) ∙ alone) l.2 m.2
      acc

  pub uncrossed_then : (i j k r : ℕ) (a : Selection) (s : Sent) → i < j → k < r → SendsAt ps i s → ReceivesAt ps k a
      → accepts a s ≡ true → then k ≡ Some j → then i ≡ Some r → ⊥
  uncrossed_then i j k r a s ij kr sends receives acc kj ir =
      let l = line_then i (Send s) sends in
      let m = line_then k (Receive a) receives in
      uncrossed ps i j k r l.0 m.0 a s ij kr l.1 m.1 l.2 m.2 acc (sym (ap partner_of_line m.1) ∙ kj)
      (sym (ap partner_of_line l.1) ∙ ir)

  -- behind one post more
  pub stays : (p : Post) (i j : ℕ) → then i ≡ Some j → partner_at (pairs (ps ++ p ∷ [])) i ≡ Some j
  stays p i j h = order_laws.stays ps (p ∷ []) i j h

  length_then : length (pairs ps) ≡ length ps
  length_then = sym (posts_length (pairs ps)) ∙ ap length (posts_pairs ps)

  pub next_has : (p : Post) (j : ℕ) → partner_for (pairs ps) p ≡ Some j
      → partner_at (pairs (ps ++ p ∷ [])) (length ps) ≡ Some j
  next_has p j h =
      subst (λ ls. partner_at ls (length ps) ≡ Some j) (sym (pairs_snoc ps p))
      (subst (λ n. partner_at (add (pairs ps) p) n ≡ Some j) length_then
      (ap partner_of_line (add_new (pairs ps) p) ∙ h))

-- ---- lines on the way

-- the lines of these posts, and the places of the sends that have arrived
pub record Well (ps : List Post) (ms : List Line) (arr : List ℕ) : Type 0 where
  pub posts : posts_of ms ≡ ps
  -- what has a partner has the same one then, and is that one's partner
  pub part : (i j : ℕ) → partner_at ms i ≡ Some j → partner_at (pairs ps) i ≡ Some j
  pub both : (i j : ℕ) → partner_at ms i ≡ Some j → partner_at ms j ≡ Some i
  -- a receive without a message accepts none that has arrived and that nobody has
  pub idle : (i j : ℕ) (a : Selection) (s : Sent) → ReceivesAt ps i a → SendsAt ps j s → HasArrived arr j
      → partner_at ms i ≡ None → partner_at ms j ≡ None → accepts a s ≡ true → ⊥
  -- messages of one outbox have arrived in their order
  pub order : (i j n : ℕ) (s t : Sent) → i < j → SendsAt ps i s → SendsAt ps j t → IsSameBox s t
      → slice_get arr n ≡ Some j → (m : ℕ) × (m < n) × (slice_get arr m ≡ Some i)
  -- what has arrived was sent, and nobody has what is on its way
  pub sends : (n i : ℕ) → slice_get arr n ≡ Some i → (s : Sent) × SendsAt ps i s
  pub away : (i : ℕ) (s : Sent) → SendsAt ps i s → ¬ HasArrived arr i → partner_at ms i ≡ None
  -- receives name their sources, and nothing is claimed
  pub named : (i : ℕ) (a : Selection) → ReceivesAt ps i a → IsNamed a.source
  pub claims : (i : ℕ) (a : Selection) → slice_get ps i ≡ Some (Claim a) → ⊥

module _ (ps : List Post) (ms : List Line) (arr : List ℕ) (well : Well ps ms arr) where
  line_now : (i : ℕ) (p : Post) → slice_get ps i ≡ Some p → (m : Line) × (slice_get ms i ≡ Some m) × (m.post ≡ p)
  line_now i p h = line_at ms i p (subst (λ qs. slice_get qs i ≡ Some p) (sym well.posts) h)

  post_now : (i : ℕ) (m : Line) → slice_get ms i ≡ Some m → slice_get ps i ≡ Some m.post
  post_now i m h = subst (λ qs. slice_get qs i ≡ Some m.post) well.posts (post_at ms i m h)

  many : length ms ≡ length ps
  many = sym (posts_length ms) ∙ ap length well.posts

  -- the receive that has a message then, which nobody has yet, has none yet
  pub free_yet : (u r x : ℕ) → partner_at ms u ≡ None → then ps well.claims r ≡ Some u → partner_at ms r ≡ Some x → ⊥
  free_yet u r x none has e =
      let f : Some x ≡ Some u = sym (well.part r x e) ∙ has in
      let same = same_Some x u f in
      let g = subst (λ k. partner_at ms k ≡ Some r) same (well.both r x e) in absurd (cc)

  -- ---- an arrival

  module _ (u : ℕ) (s : Sent) (is : SendsAt ps u s) (way : ¬ HasArrived arr u)
      (first : (i : ℕ) (other : Sent) → i < u → SendsAt ps i other → IsSameBox other s → HasArrived arr i) where
    none_u : partner_at ms u ≡ None
    none_u = well.away u s is way

    module _ (q : ℕ) (a : Selection) (receives : ReceivesAt ps q a) (none_q : partner_at ms q ≡ None)
        (acc : accepts a s ≡ true) (least : (l : ℕ) (y : Line) → l < q → slice_get ms l ≡ Some y → y.partner ≡ None
        → may_pair (Send s) y.post ≡ true → ⊥) where
      -- it has no earlier message then
      no_earlier : (v : ℕ) (t : Sent) → v < u → SendsAt ps v t → accepts a t ≡ true → then ps well.claims q ≡ Some v → ⊥
      no_earlier v t below sends also has = go (partner_at ms v) refl
        where
          came : HasArrived arr v
          came = first v t below sends (same_box a t s (well.named q a receives) also acc)

          go : (x : Option ℕ) → partner_at ms v ≡ x → ⊥
          go None e = well.idle q v a t receives sends came none_q e also
          go (Some x) e = free_yet q v x none_q (back_then ps well.claims q v has) e

      -- nor has the message an earlier receive
      no_sooner : (r : ℕ) (b : Selection) → r < q → ReceivesAt ps r b → accepts b s ≡ true
          → then ps well.claims u ≡ Some r → ⊥
      no_sooner r b below its also has = go (partner_at ms r) refl
        where
          go : (x : Option ℕ) → partner_at ms r ≡ x → ⊥
          go None e =
              let l = line_now r (Receive b) its in
              least r l.0 below l.1 (sym (ap partner_of_line l.1) ∙ e)
              (subst (λ p. may_pair (Send s) p ≡ true) (sym l.2) also)
          go (Some x) e = free_yet u r x none_u (back_then ps well.claims u r has) e

      is_met : then ps well.claims u ≡ Some q
      is_met = go (then ps well.claims u) refl
        where
          -- the receive has another message then
          other : (v : ℕ) → then ps well.claims q ≡ Some v → (u < v → ⊥) → then ps well.claims u ≡ Some q
          other v has after =
              let t = sender ps well.claims q v a receives has in
              elim (cases_order v u) [
                | inl same ↦ back_then ps well.claims q u (subst (λ k. then ps well.claims q ≡ Some k) same has)
                | inr (inl below) ↦ absurd (no_earlier v t.0 below t.1 t.2 has)
                | inr (inr above) ↦ absurd (after above)
              ]

          none : then ps well.claims u ≡ None → (x : Option ℕ) → then ps well.claims q ≡ x
              → then ps well.claims u ≡ Some q
          none e None f = absurd (idle_then ps well.claims q u a s receives is f e acc)
          none e (Some v) f = other v f (λ above.
              let t = sender ps well.claims q v a receives f in
              let box = same_box a s t.0 (well.named q a receives) acc t.2 in
              let r = order_laws.sends ps u v q s t.0 a above is t.1 (inl receives) box.source box.dest acc t.2 f in
              let g = r.1 in absurd (cc))

          some : (r : ℕ) → then ps well.claims u ≡ Some r → then ps well.claims u ≡ Some q
          some r e =
              let b = receiver ps well.claims u r s is e in
              elim (cases_order r q) [
                | inl same ↦ subst (λ k. then ps well.claims u ≡ Some k) same e
                | inr (inl below) ↦ absurd (no_sooner r b.0 below b.1 b.2 e)
                | inr (inr above) ↦
                    let v = order_laws.receives ps q r u a b.0 s above receives (inl b.1) is acc b.2
                    (back_then ps well.claims u r e) in
                    other v.0 v.1
                    (λ after. uncrossed_then ps well.claims u v.0 q r a s after above is receives acc v.1 e)
              ]

          go : (x : Option ℕ) → then ps well.claims u ≡ x → then ps well.claims u ≡ Some q
          go None e = none e (then ps well.claims q) refl
          go (Some r) e = some r e

    -- the receive that an arriving message is given has it then
    pub chosen_is : (q : ℕ) → partner_for ms (Send s) ≡ Some q
        → (then ps well.claims u ≡ Some q) × (partner_at ms q ≡ None) × (a : Selection) × ReceivesAt ps q a
    chosen_is q h =
        let c = chosen ms (Send s) q h in
        let a = wanted_by s (c.line).post c.pair in
        let receives : ReceivesAt ps q a.0 = post_now q c.line c.here ∙ ap (λ p. Some p) a.1 in
        let none : partner_at ms q ≡ None = ap partner_of_line c.here ∙ c.free in
        (is_met q a.0 receives none a.2 c.least, none, a.0, receives)

    nobody : partner_for ms (Send s) ≡ None → (i : ℕ) (a : Selection) → ReceivesAt ps i a → partner_at ms i ≡ None
        → accepts a s ≡ true → ⊥
    nobody h i a receives none acc =
        let l = line_now i (Receive a) receives in
        let f = found_none (fits (Send s)) 0 ms h i l.0 l.1 in
        let g = fits_if (Send s) l.0 (sym (ap partner_of_line l.1) ∙ none)
        (subst (λ p. may_pair (Send s) p ≡ true) (sym l.2) acc) in
        absurd (cc)

    came_before : (i : ℕ) → HasArrived (arr ++ u ∷ []) i → (i ≡ u) ⊎ HasArrived arr i
    came_before i h = elim (get_snoc arr u h.0 i h.1) [ inl c ↦ inl c.1 | inr c ↦ inr (h.0, c) ]

    module _ (o : Option ℕ) (is_o : partner_for ms (Send s) ≡ o) where
      at_other : (q : ℕ) → o ≡ Some q
          → (then ps well.claims u ≡ Some q) × (partner_at ms q ≡ None) × (a : Selection) × ReceivesAt ps q a
      at_other q e = chosen_is q (is_o ∙ e)

      -- a message isn't given to itself
      apart : (q : ℕ) → o ≡ Some q → u ≡ q → ⊥
      apart q e same =
          let c = at_other q e in
          let f : Some (Send s) ≡ Some (Receive c.2) = sym is
          ∙ subst (λ k. slice_get ps k ≡ Some (Receive c.2)) (sym same) c.3 in
          absurd (cc)

      within_u : u < length ms
      within_u = (let l = line_now u (Send s) is in get_within ms u l.0 l.1)

      within_q : (q : ℕ) → o ≡ Some q → q < length ms
      within_q q e =
          (let c = at_other q e in let l = line_now q (Receive c.2) c.3 in get_within ms q l.0 l.1)

      both_met : (i j : ℕ) → Met ms u o i j → partner_at (joined ms u o) j ≡ Some i
      both_met i j (is_first e f) =
          subst (λ k. partner_at (joined ms u o) j ≡ Some k) (sym e)
          (subst (λ x. partner_at (joined ms u x) j ≡ Some u) (sym f) (second_at ms u j (within_q j f) (apart j f)))
      both_met i j (is_second e f) =
          subst (λ k. partner_at (joined ms u o) k ≡ Some i) (sym f)
          (subst (λ x. partner_at (joined ms u x) u ≡ Some i) (sym e) (first_at ms u i within_u))
      both_met i j (was_met e) =
          kept_at ms u o j i (well.both i j e)
          (λ same.
          let g = subst (λ k. partner_at ms k ≡ Some i) (sym same) (well.both i j e) in
          let n = none_u in absurd (cc))
          (λ same. let n = (at_other j same).1 in let g = well.both i j e in absurd (cc))

      part_met : (i j : ℕ) → Met ms u o i j → partner_at (pairs ps) i ≡ Some j
      part_met i j (is_first e f) = subst (λ k. partner_at (pairs ps) k ≡ Some j) (sym e) (at_other j f).0
      part_met i j (is_second e f) =
          subst (λ k. partner_at (pairs ps) i ≡ Some k) (sym f) (back_then ps well.claims u i (at_other i e).0)
      part_met i j (was_met e) = well.part i j e

      idle_met : (i j : ℕ) (a : Selection) (t : Sent) → ReceivesAt ps i a → SendsAt ps j t
          → (j ≡ u) ⊎ HasArrived arr j → partner_at (joined ms u o) i ≡ None → partner_at (joined ms u o) j ≡ None
          → accepts a t ≡ true → ⊥
      idle_met i j a t receives sends (inr came) ni nj acc =
          well.idle i j a t receives sends came (none_joined ms u o i ni) (none_joined ms u o j nj) acc
      idle_met i j a t receives sends (inl at) ni nj acc = go o refl
        where
          same : t ≡ s
          same =
              (let e : Some (Send t) ≡ Some (Send s) = sym sends
              ∙ subst (λ k. slice_get ps k ≡ Some (Send s)) (sym at) is in
              (cc))

          go : (x : Option ℕ) → o ≡ x → ⊥
          go None e =
              nobody (is_o ∙ e) i a receives (none_joined ms u o i ni) (subst (λ z. accepts a z ≡ true) same acc)
          go (Some q) e =
              let f = subst (λ x. partner_at (joined ms u x) u ≡ Some q) (sym e) (first_at ms u q within_u) in
              let g = subst (λ k. partner_at (joined ms u o) k ≡ None) at nj in absurd (cc)

      order_met : (i j n : ℕ) (s' t : Sent) → i < j → SendsAt ps i s' → SendsAt ps j t → IsSameBox s' t
          → slice_get (arr ++ u ∷ []) n ≡ Some j → (m : ℕ) × (m < n) × (slice_get (arr ++ u ∷ []) m ≡ Some i)
      order_met i j n s' t below si sj box h = elim (get_snoc arr u n j h) [
        | inl c ↦
            let e : Some (Send t) ≡ Some (Send s) = sym sj ∙ subst (λ k. slice_get ps k ≡ Some (Send s)) (sym c.1) is in
            let same : t ≡ s = (cc) in
            let x = first i s' (subst (λ k. i < k) c.1 below) si (subst (λ z. IsSameBox s' z) same box) in
            let b = get_within arr x.0 i x.1 in
            let at = c.0 in
            (x.0, omega (arith, b, at), get_front arr (u ∷ []) x.0 i x.1)
        | inr c ↦ (let x = well.order i j n s' t below si sj box c in (x.0, x.1, get_front arr (u ∷ []) x.0 i x.2))
      ]

      away_met : (i : ℕ) (t : Sent) → SendsAt ps i t → ¬ HasArrived (arr ++ u ∷ []) i
          → partner_at (joined ms u o) i ≡ None
      away_met i t sends off =
          none_kept ms u o i
          (well.away i t sends (λ (h : HasArrived arr i). off (h.0, get_front arr (u ∷ []) h.0 i h.1)))
          (λ at. off (length arr, get_last arr u ∙ ap (λ k. Some k) (sym at)))
          (λ e. let c = at_other i e in
          let f : Some (Send t) ≡ Some (Receive c.2) = sym sends ∙ c.3 in absurd (cc))

      pub well_met : Well ps (joined ms u o) (arr ++ u ∷ [])
      well_met = record {
        posts = posts_joined ms u o ∙ well.posts;
        part = λ i j h. part_met i j (met ms u o i j h);
        both = λ i j h. both_met i j (met ms u o i j h);
        idle = λ i j a t receives sends came. idle_met i j a t receives sends (came_before j came);
        order = order_met;
        sends = λ n i h. elim (get_snoc arr u n i h) [
          | inl c ↦ (s, subst (λ k. slice_get ps k ≡ Some (Send s)) (sym c.1) is)
          | inr c ↦ well.sends n i c
        ];
        away = away_met;
        named = well.named;
        claims = well.claims;
      }

    pub well_arrived : Well ps (joined ms u (partner_for ms (Send s))) (arr ++ u ∷ [])
    well_arrived = well_met (partner_for ms (Send s)) refl

  -- ---- a send

  module _ (s : Sent) where
    old_receive : (i : ℕ) (a : Selection) → ReceivesAt (ps ++ Send s ∷ []) i a → ReceivesAt ps i a
    old_receive i a h = elim (get_snoc ps (Send s) i (Receive a) h) [ inl c ↦ (let e = c.1 in absurd (cc)) | inr c ↦ c ]

    came_old : (i : ℕ) (t : Sent) → HasArrived arr i → SendsAt (ps ++ Send s ∷ []) i t → SendsAt ps i t
    came_old i t came h =
        let x = well.sends came.0 i came.1 in
        let f = get_front ps (Send s ∷ []) i (Send x.0) x.1 in
        let e : Some (Send x.0) ≡ Some (Send t) = sym f ∙ h in
        subst (λ p. slice_get ps i ≡ p) e x.1

    part_sent : (i j : ℕ) → Look ms None i j → partner_at (pairs (ps ++ Send s ∷ [])) i ≡ Some j
    part_sent i j (is_new e f) = absurd (cc)
    part_sent i j (is_given e f) = absurd (cc)
    part_sent i j (is_old e) = stays ps well.claims (Send s) i j (well.part i j e)

    both_sent : (i j : ℕ) → Look ms None i j → partner_at (add_with ms (Send s) None) j ≡ Some i
    both_sent i j (is_new e f) = absurd (cc)
    both_sent i j (is_given e f) = absurd (cc)
    both_sent i j (is_old e) = old_at ms (Send s) None j i (well.both i j e) (λ z. absurd (cc))

    old_send : (i : ℕ) (t : Sent) → (i ≡ length ps → ⊥) → SendsAt (ps ++ Send s ∷ []) i t → SendsAt ps i t
    old_send i t other h = elim (get_snoc ps (Send s) i (Send t) h) [ inl c ↦ absurd (other c.0) | inr c ↦ c ]

    pub well_sent : Well (ps ++ Send s ∷ []) (add_with ms (Send s) None) arr
    well_sent = record {
      posts = posts_with ms (Send s) None ∙ ap (λ qs. qs ++ Send s ∷ []) well.posts;
      part = λ i j h. part_sent i j (look ms (Send s) None i j h);
      both = λ i j h. both_sent i j (look ms (Send s) None i j h);
      idle = λ i j a t receives sends came ni nj.
          well.idle i j a t (old_receive i a receives) (came_old j t came sends) came
          (none_before ms (Send s) None i ni)
          (none_before ms (Send s) None j nj);
      order = λ i j n t r below si sj box h.
          let old = came_old j r (n, h) sj in
          let b = get_within ps j (Send r) old in
          well.order i j n t r below (old_send i t (λ e. absurd (omega (arith, below, b, e))) si) old box h;
      sends = λ n i h. (let x = well.sends n i h in (x.0, get_front ps (Send s ∷ []) i (Send x.0) x.1));
      away = λ i t sends off. elim (get_snoc ps (Send s) i (Send t) sends) [
        | inl c ↦ subst (λ k. partner_at (add_with ms (Send s) None) k ≡ None) (many ∙ sym c.0)
            (new_at ms (Send s) None)
        | inr c ↦
            none_after ms (Send s) None i
            (let l = line_now i (Send t) c in get_within ms i l.0 l.1)
            (well.away i t c off) (λ z. absurd (cc))
      ];
      named = λ i a receives. well.named i a (old_receive i a receives);
      claims = λ i a h. elim (get_snoc ps (Send s) i (Claim a) h) [
        | inl c ↦ (let e = c.1 in absurd (cc))
        | inr c ↦ well.claims i a c
      ];
    }

  -- ---- a receive of a named source

  -- what is found first
  pub record First (new : Post) (came : List ℕ) (place : ℕ) : Type 0 where
    pub at : ℕ
    pub here : slice_get came at ≡ Some place
    pub fits : fits_in new (slice_get ms place) ≡ true
    pub before : (m x : ℕ) → m < at → slice_get came m ≡ Some x → fits_in new (slice_get ms x) ≡ false

  pub first : (new : Post) (came : List ℕ) (place : ℕ) → first_found ms new came ≡ Some place → First new came place
  first new [] place h = absurd (cc)
  first new (x ∷ xs) place h = go (fits_in new (slice_get ms x)) refl (λ g. first new xs place g) h
    where
      earlier : (place at : ℕ) → First new xs place → fits_in new (slice_get ms x) ≡ false → First new (x ∷ xs) place
      earlier place at f e = record {
        at = suc f.at;
        here = f.here;
        fits = f.fits;
        before = λ m y below h. past f m y below h;
      }
        where
          past : (f : First new xs place) → (m y : ℕ) → m < suc f.at → slice_get (x ∷ xs) m ≡ Some y
              → fits_in new (slice_get ms y) ≡ false
          past f zero y below h = (let same : x ≡ y = (cc) in subst (λ k. fits_in new (slice_get ms k) ≡ false) same e)
          past f (suc m) y below h = f.before m y (omega (arith, below)) h

      go : (b : Bool) → fits_in new (slice_get ms x) ≡ b → (first_found ms new xs ≡ Some place → First new xs place)
          → cond b (Some x) (first_found ms new xs) ≡ Some place → First new (x ∷ xs) place
      go true e rec h =
          let same : x ≡ place = (cc) in
          record {
            at = 0;
            here = ap (λ k. Some k) same;
            fits = subst (λ k. fits_in new (slice_get ms k) ≡ true) same e;
            before = λ m y below g. absurd (omega (arith, below));
          }
      go false e rec h = earlier place 0 (rec h) e

  pub none_found : (new : Post) (came : List ℕ) → first_found ms new came ≡ None → (n x : ℕ) → slice_get came n ≡ Some x
      → fits_in new (slice_get ms x) ≡ false
  none_found new [] h n x at = absurd (cc)
  none_found new (y ∷ ys) h n x at =
      go (fits_in new (slice_get ms y)) refl (λ r m found. none_found new ys r m x found) h n at
    where
      go : (b : Bool) → fits_in new (slice_get ms y) ≡ b
          → (first_found ms new ys ≡ None → (m : ℕ) → slice_get ys m ≡ Some x → fits_in new (slice_get ms x) ≡ false)
          → cond b (Some y) (first_found ms new ys) ≡ None → (n : ℕ) → slice_get (y ∷ ys) n ≡ Some x
          → fits_in new (slice_get ms x) ≡ false
      go true e rec h n at = absurd (cc)
      go false e rec h zero at = (let same : y ≡ x = (cc) in subst (λ k. fits_in new (slice_get ms k) ≡ false) same e)
      go false e rec h (suc n) at = rec h n at

  fit_line : (new : Post) (o : Option Line) → fits_in new o ≡ true
      → (m : Line) × (o ≡ Some m) × (m.partner ≡ None) × (may_pair new m.post ≡ true)
  fit_line new None h = absurd (cc)
  fit_line new (Some m) h =
      let p = and_parts (is_free m.partner) (may_pair new m.post) h in (m, refl, free_if m.partner p.0, p.1)

  module _ (a : Selection) (named : IsNamed a.source) where
    -- a free send that it accepts is fit
    fit : (j : ℕ) (t : Sent) → SendsAt ps j t → partner_at ms j ≡ None → accepts a t ≡ true
        → fits_in (Receive a) (slice_get ms j) ≡ true
    fit j t sends none acc =
        let l = line_now j (Send t) sends in
        subst (λ o. fits_in (Receive a) o ≡ true) (sym l.1)
        (fits_if (Receive a) l.0 (sym (ap partner_of_line l.1) ∙ none)
        (subst (λ p. may_pair (Receive a) p ≡ true) (sym l.2) acc))

    -- what has arrived and nobody has nobody has then
    free_then : (p : ℕ) (s : Sent) → SendsAt ps p s → HasArrived arr p → partner_at ms p ≡ None
        → then ps well.claims p ≡ None
    free_then p s sends came none = go (then ps well.claims p) refl
      where
        held : (r : ℕ) (b : Selection) → ReceivesAt ps r b → accepts b s ≡ true → then ps well.claims p ≡ Some r
            → (x : Option ℕ)
            → partner_at ms r ≡ x → ⊥
        held r b receives acc has None e = well.idle r p b s receives sends came e none acc
        held r b receives acc has (Some x) e = free_yet p r x none (back_then ps well.claims p r has) e

        go : (x : Option ℕ) → then ps well.claims p ≡ x → then ps well.claims p ≡ None
        go None e = e
        go (Some r) e =
            let b = receiver ps well.claims p r s sends e in
            absurd (held r b.0 b.1 b.2 e (partner_at ms r) refl)

    -- what it finds it finds then
    pub finds : (p : ℕ) → first_found ms (Receive a) arr ≡ Some p → partner_for (pairs ps) (Receive a) ≡ Some p
    finds p h = go (partner_for (pairs ps) (Receive a)) refl
      where
        f : First (Receive a) arr p
        f = first (Receive a) arr p h

        l : (m : Line) × (slice_get ms p ≡ Some m) × (m.partner ≡ None) × (may_pair (Receive a) m.post ≡ true)
        l = fit_line (Receive a) (slice_get ms p) f.fits

        s : (s : Sent) × ((l.0).post ≡ Send s) × (accepts a s ≡ true)
        s = wants a (l.0).post l.3

        sends : SendsAt ps p s.0
        sends = post_now p l.0 l.1 ∙ ap (λ q. Some q) s.1

        alone : then ps well.claims p ≡ None
        alone = free_then p s.0 sends (f.at, f.here) (ap partner_of_line l.1 ∙ l.2)

        later : (m : Line) × (slice_get (pairs ps) p ≡ Some m) × (m.post ≡ Send s.0)
        later = line_then ps well.claims p (Send s.0) sends

        free : (later.0).partner ≡ None
        free = sym (ap partner_of_line later.1) ∙ alone

        pair : may_pair (Receive a) (later.0).post ≡ true
        pair = subst (λ q. may_pair (Receive a) q ≡ true) (sym later.2) s.2

        sooner : (v : ℕ) → Chosen (pairs ps) (Receive a) v → v < p → ⊥
        sooner v c below =
            let t = wants a (c.line).post c.pair in
            let st : SendsAt ps v t.0 = post_then ps well.claims v c.line c.here ∙ ap (λ q. Some q) t.1 in
            let x = well.order v p f.at t.0 s.0 below st sends (same_box a t.0 s.0 named t.2 s.2) f.here in
            let no = f.before x.0 v x.1 x.2 in
            let none : then ps well.claims v ≡ None = ap partner_of_line c.here ∙ c.free in
            let yes = fit v t.0 st (unmet v none (partner_at ms v) refl) t.2 in
            absurd (cc)
          where
            unmet : (v : ℕ) → then ps well.claims v ≡ None → (x : Option ℕ) → partner_at ms v ≡ x
                → partner_at ms v ≡ None
            unmet v none None e = e
            unmet v none (Some x) e = (let g = well.part v x e in absurd (cc))

        go : (x : Option ℕ) → partner_for (pairs ps) (Receive a) ≡ x → partner_for (pairs ps) (Receive a) ≡ Some p
        go None e =
            let no = found_none (fits (Receive a)) 0 (pairs ps) e p later.0 later.1 in
            let yes = fits_if (Receive a) later.0 free pair in absurd (cc)
        go (Some v) e =
            let c = chosen (pairs ps) (Receive a) v e in
            elim (cases_order v p) [
              | inl same ↦ e ∙ ap (λ k. Some k) same
              | inr (inl below) ↦ absurd (sooner v c below)
              | inr (inr above) ↦ absurd (c.least p later.0 above later.1 free pair)
            ]

    module _ (o : Option ℕ) (is_o : first_found ms (Receive a) arr ≡ o) where
      abbrev more : List Post
      more = ps ++ Receive a ∷ []

      abbrev new : List Line
      new = add_with ms (Receive a) o

      -- what it finds was sent, has arrived, and nobody has it
      what : (p : ℕ) → o ≡ Some p → (s : Sent) × SendsAt ps p s × HasArrived arr p × (partner_at ms p ≡ None)
      what p e =
          let f = first (Receive a) arr p (is_o ∙ e) in
          let l = fit_line (Receive a) (slice_get ms p) f.fits in
          let s = wants a (l.0).post l.3 in
          (s.0, post_now p l.0 l.1 ∙ ap (λ q. Some q) s.1, (f.at, f.here), ap partner_of_line l.1 ∙ l.2)

      old_one : (i : ℕ) (t : Sent) → SendsAt more i t → SendsAt ps i t
      old_one i t h = elim (get_snoc ps (Receive a) i (Send t) h) [ inl c ↦ (let e = c.1 in absurd (cc)) | inr c ↦ c ]

      part_got : (i j : ℕ) → Look ms o i j → partner_at (pairs more) i ≡ Some j
      part_got i j (is_new e f) =
          subst (λ k. partner_at (pairs more) k ≡ Some j) (sym (e ∙ many))
          (next_has ps well.claims (Receive a) j (finds j (is_o ∙ f)))
      part_got i j (is_given e f) =
          let has = next_has ps well.claims (Receive a) i (finds i (is_o ∙ e)) in
          let back = (order_laws.pairing more (length ps) i has).0 in
          subst (λ k. partner_at (pairs more) i ≡ Some k) (sym (f ∙ many)) back
      part_got i j (is_old e) = stays ps well.claims (Receive a) i j (well.part i j e)

      both_got : (i j : ℕ) → Look ms o i j → partner_at new j ≡ Some i
      both_got i j (is_new e f) =
          subst (λ k. partner_at new j ≡ Some k) (sym e)
          (subst (λ x. partner_at (add_with ms (Receive a) x) j ≡ Some (length ms)) (sym f)
          (given_at ms (Receive a) j
          (let w = what j f in let l = line_now j (Send w.0) w.1 in get_within ms j l.0 l.1)))
      both_got i j (is_given e f) = subst (λ k. partner_at new k ≡ Some i) (sym f) (new_at ms (Receive a) o ∙ e)
      both_got i j (is_old e) =
          old_at ms (Receive a) o j i (well.both i j e)
          (λ z. let n = (what j z).3 in let g = well.both i j e in absurd (cc))

      idle_got : (i j : ℕ) (b : Selection) (t : Sent) → ((i ≡ length ps) × (Receive b ≡ Receive a)) ⊎ ReceivesAt ps i b
          → SendsAt ps j t → HasArrived arr j → partner_at new i ≡ None → partner_at new j ≡ None
          → accepts b t ≡ true → ⊥
      idle_got i j b t (inr receives) sends came ni nj acc =
          well.idle i j b t receives sends came (none_before ms (Receive a) o i ni)
          (none_before ms (Receive a) o j nj) acc
      idle_got i j b t (inl at) sends came ni nj acc =
          let same : b ≡ a = (let e = at.1 in (cc)) in
          let none : o ≡ None = sym (new_at ms (Receive a) o)
          ∙ subst (λ k. partner_at new k ≡ None) (at.0 ∙ sym many) ni in
          let no = none_found (Receive a) arr (is_o ∙ none) came.0 j came.1 in
          let yes = fit j t sends (none_before ms (Receive a) o j nj) (subst (λ c. accepts c t ≡ true) same acc) in
          absurd (cc)

      pub well_got : Well more new arr
      well_got = record {
        posts = posts_with ms (Receive a) o ∙ ap (λ qs. qs ++ Receive a ∷ []) well.posts;
        part = λ i j h. part_got i j (look ms (Receive a) o i j h);
        both = λ i j h. both_got i j (look ms (Receive a) o i j h);
        idle = λ i j b t receives sends came.
            idle_got i j b t (get_snoc ps (Receive a) i (Receive b) receives) (old_one j t sends) came;
        order = λ i j n t r below si sj. well.order i j n t r below (old_one i t si) (old_one j r sj);
        sends = λ n i h. (let x = well.sends n i h in (x.0, get_front ps (Receive a ∷ []) i (Send x.0) x.1));
        away = λ i t sends off.
            let old = old_one i t sends in
            none_after ms (Receive a) o i (let l = line_now i (Send t) old in get_within ms i l.0 l.1)
            (well.away i t old off) (λ e. off (what i e).2);
        named = λ i b receives. elim (get_snoc ps (Receive a) i (Receive b) receives) [
          | inl c ↦ (let e = c.1 in let same : a ≡ b = (cc) in subst (λ (z : Selection). IsNamed z.source) same named)
          | inr c ↦ well.named i b c
        ];
        claims = λ i b h. elim (get_snoc ps (Receive a) i (Claim b) h) [
          | inl c ↦ (let e = c.1 in absurd (cc))
          | inr c ↦ well.claims i b c
        ];
      }

    pub well_received : Well (ps ++ Receive a ∷ []) (add_with ms (Receive a) (first_found ms (Receive a) arr)) arr
    well_received = well_got (first_found ms (Receive a) arr) refl
