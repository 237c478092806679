-- Pairs of partitioned transfers, their links, and the cut that a receiver is told.
use Rattle.std.proofs.Common.{◌≡◌, ◌*◌, ◌↔◌, ℕ, zero, suc, ◌⊎◌, inl, inr, List, [], ◌∷◌, ◌++◌, length, Bool, true, false, cond, not, Option, Some, None, refl, sym, ap, ◌∙◌, subst, append_assoc, append-nil}
use Rattle.std.specs.Prelude.{◌==◌, ◌&&◌, ◌||◌, nat_lt, filter, find, option_map}
use Rattle.std.specs.List.{slice_get, list_all, enumerate_from}
use Rattle.std.proofs.lemmas.List.Elements.{filter-append}
use Rattle.std.proofs.lemmas.Bool.{and_parts, eqb-true, eq-eqb, not-true}
use Rattle.std.proofs.lemmas.Option.{same_Some}
use Rattle.rv_image_types.specs.declared.images.Link.{Link}
use Rattle.mp_types.specs.declared.codes.Code.TheVariants.{BadRequest, BadMessage, Full, Shape}
use Rattle.mp_types.specs.declared.replies.Reply.{Reply}
use Rattle.mp_types.specs.declared.replies.Reply.TheVariants as reply
use Rattle.mp_types.specs.declared.requests.Request.{Request}
use Rattle.mp_types.specs.declared.requests.Request.TheVariants.{Send, Recv, Collect, Finished, Probe, Claim, Claimed, All, Init, Cut}
use Rattle.mp_match.specs.Board.{collect, send_posted, held_count, is_send_of, line_of}
use Rattle.mp_match.proofs.Places.{get_snoc}
use Rattle.mp_probe.specs.Claims.{next_number, may_receive, without_claim}
use Rattle.mp_transfers.specs.declared.sides.Setup.{Setup}
use Rattle.mp_transfers.specs.declared.sides.Side.{Side}
use Rattle.mp_transfers.specs.Inits.{peer_of, is_same_side, is_other_side, is_reserved, is_for, lowest_link, same_total, is_sender_over, sender_over, is_to, is_receiver}
use Rattle.mp_hub.specs.Hub.{HubView, Call, outcome, got_or, claimed_now, is_complete, may_collect, init_with, init_first, cut_of, setup_of, side_added, all_got, all_collected, are_distinct, is_known, is_ready, sending, with_board, with_claims, is_done, hub_on, hub_after, reply_of, hub_at_start}
use Rattle.mp_hub.specs.Transfers.{begun, begun_behind, begun_after, Transfer, is_of, sides_of, ArePairs, HaveOwnLinks, PairsLaw, ReceivesOver, SenderBegan, NoSenderBegan, CutLaw}
use Rattle.mp_hub.proofs.CallsSoFar.{hub_on-snoc}

-- ---- what one call does to the sides

-- how a new side came to its link: it is its peer's, or one that no side had
pub data Joins (sides : List Side) (n : Side) : Type 0 where
  is_second : (p : Side) → peer_of sides n.setup ≡ Some p → same_total n.setup p.setup ≡ true → n.link ≡ p.link
      → Joins sides n
  is_first : peer_of sides n.setup ≡ None → is_reserved sides n.link ≡ false → Joins sides n

-- a call leaves the sides as they are, or adds the one that it began
pub data Steps (h : HubView) (rank : ℕ) (q : Request) (r : Reply) (k : HubView) : Type 0 where
  is_none : begun rank q r ≡ [] → k.sides ≡ h.sides → k.links ≡ h.links → Steps h rank q r k
  is_one : (n : Side) → begun rank q r ≡ n ∷ [] → k.sides ≡ h.sides ++ n ∷ [] → k.links ≡ h.links → Joins h.sides n
      → Steps h rank q r k

abbrev pub StepsTo : HubView → ℕ → Request → Reply × HubView → Type 0
StepsTo h rank q o = Steps h rank q o.0 o.1

either : (h : HubView) (rank : ℕ) (q : Request) (c : Bool) (x y : Reply × HubView) → StepsTo h rank q x
    → StepsTo h rank q y
    → StepsTo h rank q (cond c x y)
either h rank q true x y p n = p
either h rank q false x y p n = n

pub find_passes : {A : Type 0} (p : A → Bool) (xs : List A) (x : A) → find p xs ≡ Some x → p x ≡ true
find_passes p [] x h = absurd (cc)
find_passes p (y ∷ ys) x h = go (p y) refl (λ g. find_passes p ys x g) h
  where
    go : (b : Bool) → p y ≡ b → (find p ys ≡ Some x → p x ≡ true) → cond b (Some y) (find p ys) ≡ Some x → p x ≡ true
    go true e rec g = ap p (sym (same_Some y x g)) ∙ e
    go false e rec g = rec g

-- the lowest link of a transfer is one that no side has
lowest_link_is_free : (links : List Link) (sides : List Side) (s : Setup) (link : ℕ) → lowest_link links sides s ≡ Some link
    → is_reserved sides link ≡ false
lowest_link_is_free links sides s link h = go (find (is_for sides s) (enumerate_from 0 links)) refl h
  where
    go : (o : Option (ℕ × Link)) → find (is_for sides s) (enumerate_from 0 links) ≡ o
        → option_map (λ (l : ℕ × Link). l.0) o ≡ Some link → is_reserved sides link ≡ false
    go None e g = absurd (cc)
    go (Some l) e g =
        let passes : is_for sides s l ≡ true = find_passes (is_for sides s) (enumerate_from 0 links) l e in
        let joins = (l.1.from == s.from) && (l.1.to == s.to) in
        let free : not (is_reserved sides l.0) ≡ true = (and_parts joins (not (is_reserved sides l.0)) passes).1 in
        ap (is_reserved sides) (sym (same_Some l.0 link g)) ∙ not-true (is_reserved sides l.0) free

abbrev pub numbered : Setup → ℕ → Side
numbered s link = record { setup = s; link = link }

pub steps : (h : HubView) (rank : ℕ) (q : Request) → StepsTo h rank q (outcome h rank q)
steps h rank (Send sync comm dest tag bytes) =
    either h rank (Send sync comm dest tag bytes) (nat_lt (held_count h.board.bodies) 65536) (
      reply.Posted (next_number h.board) (is_done h.board (sending rank sync comm dest tag bytes)),
      with_board h (send_posted h.board (sending rank sync comm dest tag bytes) bytes),
    )
    (reply.Code Full, h)
    (is_none refl refl refl) (is_none refl refl refl)
steps h rank (Recv true comm source tag) = is_none refl refl refl
steps h rank (Recv false comm source tag) = is_none refl refl refl
steps h rank (Collect n) =
    either h rank (Collect n) (may_collect h rank n) (got_or h reply.NotYet (collect h.board n))
    (reply.Code BadRequest, h)
    (is_none refl refl refl) (is_none refl refl refl)
steps h rank (Finished n) =
    either h rank (Finished n) (is_send_of rank (line_of h.board n)) (cond (is_complete h n) reply.Done reply.NotYet, h)
    (reply.Code BadRequest, h)
    (is_none refl refl refl) (is_none refl refl refl)
steps h rank (Probe comm source tag) = is_none refl refl refl
steps h rank (Claim comm source tag) = is_none refl refl refl
steps h rank (Claimed now n) =
    either h rank (Claimed now n) (may_receive h.claims rank n)
    (claimed_now (with_claims h (without_claim h.claims rank n)) now n) (reply.Code BadMessage, h)
    (go now) (is_none refl refl refl)
  where
    go : (now : Bool) → StepsTo h rank (Claimed now n) (claimed_now (with_claims h (without_claim h.claims rank n)) now n)
    go true = is_none refl refl refl
    go false = is_none refl refl refl
steps h rank (All ns) =
    either h rank (All ns) (are_distinct ns && list_all (λ n. is_known h rank n) ns)
    (cond (list_all (λ n. is_ready h rank n) ns) (all_collected h (all_got rank h.board ns)) (reply.NotYet, h))
    (reply.Code BadRequest, h)
    (either h rank (All ns) (list_all (λ n. is_ready h rank n) ns) (all_collected h (all_got rank h.board ns))
    (reply.NotYet, h)
    (is_none refl refl refl) (is_none refl refl refl))
    (is_none refl refl refl)
steps h rank (Init sends comm peer tag parts size) =
    go (setup_of rank sends comm peer tag parts size) refl
    (peer_of h.sides (setup_of rank sends comm peer tag parts size)) refl
  where
    first : (s : Setup) → setup_of rank sends comm peer tag parts size ≡ s → (o : Option ℕ)
        → lowest_link h.links h.sides s ≡ o
        → peer_of h.sides s ≡ None → StepsTo h rank (Init sends comm peer tag parts size) (init_first h s o)
    first s is None e none = is_none refl refl refl
    first s is (Some k) e none =
        is_one (numbered s k) (ap (λ x. numbered x k ∷ []) is) refl refl
        (is_first none (lowest_link_is_free h.links h.sides s k e))

    second : (s : Setup) → setup_of rank sends comm peer tag parts size ≡ s → (p : Side) (b : Bool)
        → same_total s p.setup ≡ b
        → peer_of h.sides s ≡ Some p
        → StepsTo h rank (Init sends comm peer tag parts size) (cond b (side_added h s p.link) (reply.Code Shape, h))
    second s is p true e found =
        is_one (numbered s p.link) (ap (λ x. numbered x p.link ∷ []) is) refl refl (is_second p found e refl)
    second s is p false e found = is_none refl refl refl

    go : (s : Setup) → setup_of rank sends comm peer tag parts size ≡ s → (o : Option Side) → peer_of h.sides s ≡ o
        → StepsTo h rank (Init sends comm peer tag parts size) (init_with h s o)
    go s is None e = first s is (lowest_link h.links h.sides s) refl e
    go s is (Some p) e = second s is p (same_total s p.setup) refl e
steps h rank (Cut link) =
    either h rank (Cut link) (is_receiver h.links rank link) (cut_of (sender_over h.sides link), h)
    (reply.Code BadRequest, h)
    (is_none refl refl refl) (is_none refl refl refl)

-- ---- the sides of a transfer

abbrev pub transfer_of : Side → Transfer
transfer_of t = record { comm = t.setup.comm; from = t.setup.from; to = t.setup.to; tag = t.setup.tag }

same_sending : (x b : Bool) → cond x b (not b) ≡ true → x ≡ b
same_sending true true e = refl
same_sending true false e = absurd (cc)
same_sending false true e = absurd (cc)
same_sending false false e = refl

-- a side is of its own transfer alone
of_own : (a : Transfer) (x : Bool) (t : Side) → is_of a x t ≡ true → (a ≡ transfer_of t) × (x ≡ t.setup.sending)
of_own a x t e =
    let s = t.setup in
    let three = (s.comm == a.comm) && (s.from == a.from) && (s.to == a.to) in
    let p = and_parts (three && (s.tag == a.tag)) (cond x s.sending (not s.sending)) e in
    let q = and_parts three (s.tag == a.tag) p.0 in
    let r = and_parts ((s.comm == a.comm) && (s.from == a.from)) (s.to == a.to) q.0 in
    let v = and_parts (s.comm == a.comm) (s.from == a.from) r.0 in
    let comm : a.comm ≡ s.comm = sym (eqb-true s.comm a.comm v.0) in
    let from : a.from ≡ s.from = sym (eqb-true s.from a.from v.1) in
    let to : a.to ≡ s.to = sym (eqb-true s.to a.to r.1) in
    let tag : a.tag ≡ s.tag = sym (eqb-true s.tag a.tag q.1) in (
      λ i. record { comm = comm i; from = from i; to = to i; tag = tag i },
      same_sending x s.sending p.1,
    )

is_of_own : (t : Side) → t.setup.sending ≡ true → is_of (transfer_of t) true t ≡ true
is_of_own t sends =
    let s = t.setup in
    let comm : (s.comm == s.comm) ≡ true = eq-eqb s.comm s.comm refl in
    let from : (s.from == s.from) ≡ true = eq-eqb s.from s.from refl in
    let to : (s.to == s.to) ≡ true = eq-eqb s.to s.to refl in
    let tag : (s.tag == s.tag) ≡ true = eq-eqb s.tag s.tag refl in
    (λ i. comm i && from i && to i && tag i && sends i)

-- the other side of a side's transfer
other_of : (n t : Side) → is_other_side n.setup t ≡ is_of (transfer_of n) (not n.setup.sending) t
other_of n t =
    go ((t.setup.comm == n.setup.comm) && (t.setup.from == n.setup.from) && (t.setup.to == n.setup.to)
    && (t.setup.tag == n.setup.tag))
    n.setup.sending t.setup.sending
  where
    go : (e b c : Bool) → (e && cond b (not c) c) ≡ (e && cond (not b) c (not c))
    go e true c = refl
    go e false c = refl

-- a new side's peer is the side of the same number on the other side of its transfer
peer_is : (sides : List Side) (n : Side) (a : Transfer) (x : Bool) → is_of a x n ≡ true
    → peer_of sides n.setup ≡ slice_get (sides_of sides a (not x)) (length (sides_of sides a x))
peer_is sides n a x e =
    let own = of_own a x n e in
    ap (λ (p : Side → Bool). slice_get (filter p sides) (length (filter (is_same_side n.setup) sides)))
    (λ i t. other_of n t i)
    ∙ sym (λ i. slice_get (sides_of sides (own.0 i) (not (own.1 i))) (length (sides_of sides (own.0 i) (own.1 i))))

-- a side of a transfer is one that was there, or it is the new one
abbrev IsAt : List Side → Side → Transfer → Bool → ℕ → Side → Type 0
IsAt sides n a x i s =
    (slice_get (sides_of sides a x) i ≡ Some s) ⊎ ((i ≡ length (sides_of sides a x)) × (is_of a x n ≡ true) × (s ≡ n))

at_end : (sides : List Side) (n : Side) (a : Transfer) (x : Bool) (i : ℕ) (s : Side)
    → slice_get (sides_of (sides ++ n ∷ []) a x) i ≡ Some s → IsAt sides n a x i s
at_end sides n a x i s h =
    go (is_of a x n) refl (ap (λ ts. slice_get ts i) (sym (filter-append (is_of a x) sides (n ∷ []))) ∙ h)
  where
    go : (b : Bool) → is_of a x n ≡ b → slice_get (sides_of sides a x ++ cond b (n ∷ []) []) i ≡ Some s
        → IsAt sides n a x i s
    go true e g =
        elim (get_snoc (sides_of sides a x) n i s g) [ inl new ↦ inr (new.0, e, new.1) | inr old ↦ inl old ]
    go false e g = inl (ap (λ ts. slice_get ts i) (sym (append-nil (sides_of sides a x))) ∙ g)

-- ---- pairs, and links of their own

pub record Paired (sides : List Side) : Type 0 where
  pub pairs : ArePairs sides
  pub own : HaveOwnLinks sides

-- the link and the total of a new side are those of the other side's side of its number
joined : (sides : List Side) (n : Side) → Joins sides n → (a : Transfer) (x : Bool) (m : Side) → is_of a x n ≡ true
    → slice_get (sides_of sides a (not x)) (length (sides_of sides a x)) ≡ Some m
    → (n.link ≡ m.link) × (n.setup.parts * n.setup.size ≡ m.setup.parts * m.setup.size)
joined sides n (is_second p found total link) a x m e h =
    let same : p ≡ m = same_Some p m (sym found ∙ peer_is sides n a x e ∙ h) in
    let totals : p.setup.parts * p.setup.size ≡ n.setup.parts * n.setup.size =
    eqb-true (p.setup.parts * p.setup.size) (n.setup.parts * n.setup.size) total in
    (link ∙ ap (λ (t : Side). t.link) same, sym totals ∙ ap (λ (t : Side). t.setup.parts * t.setup.size) same)
joined sides n (is_first none free) a x m e h =
    (let no : None ≡ Some m = sym none ∙ peer_is sides n a x e ∙ h in absurd (cc))

pairs_more : (sides : List Side) (n : Side) → Joins sides n → Paired sides → ArePairs (sides ++ n ∷ [])
pairs_more sides n join paired a i s r sent got =
    go (at_end sides n a true i s sent) (at_end sides n a false i r got)
  where
    go : IsAt sides n a true i s → IsAt sides n a false i r
        → (s.link ≡ r.link) × (s.setup.parts * s.setup.size ≡ r.setup.parts * r.setup.size)
    go (inl x) (inl y) = paired.pairs a i s r x y
    go (inr x) (inl y) =
        let j = joined sides n join a true r x.1 (ap (λ k. slice_get (sides_of sides a false) k) (sym x.0) ∙ y) in
        (ap (λ (t : Side). t.link) x.2 ∙ j.0, ap (λ (t : Side). t.setup.parts * t.setup.size) x.2 ∙ j.1)
    go (inl x) (inr y) =
        let j = joined sides n join a false s y.1 (ap (λ k. slice_get (sides_of sides a true) k) (sym y.0) ∙ x) in
        (sym (ap (λ (t : Side). t.link) y.2 ∙ j.0), sym (ap (λ (t : Side). t.setup.parts * t.setup.size) y.2 ∙ j.1))
    go (inr x) (inr y) = (let no : true ≡ false = (of_own a true n x.1).1 ∙ sym (of_own a false n y.1).1 in absurd (cc))

or_true : (b : Bool) → (b || true) ≡ true
or_true true = refl
or_true false = refl

-- the link of a side is reserved
has_reserved : (p : Side → Bool) (sides : List Side) (j : ℕ) (t : Side) → slice_get (filter p sides) j ≡ Some t
    → is_reserved sides t.link ≡ true
has_reserved p [] j t h = absurd (cc)
has_reserved p (s ∷ sides) j t h = go (p s) j (λ k g. has_reserved p sides k t g) h
  where
    later : is_reserved sides t.link ≡ true → is_reserved (s ∷ sides) t.link ≡ true
    later e = ap (λ b. (s.link == t.link) || b) e ∙ or_true (s.link == t.link)

    go : (b : Bool) (j : ℕ) → ((k : ℕ) → slice_get (filter p sides) k ≡ Some t → is_reserved sides t.link ≡ true)
        → slice_get (cond b (s ∷ filter p sides) (filter p sides)) j ≡ Some t → is_reserved (s ∷ sides) t.link ≡ true
    go true zero rec g =
        ap (λ b. b || is_reserved sides t.link) (eq-eqb s.link t.link (ap (λ (u : Side). u.link) (same_Some s t g)))
    go true (suc j) rec g = later (rec j g)
    go false j rec g = later (rec j g)

-- a new side shares its link with its peer alone
pub own_new : (sides : List Side) (n : Side) → Joins sides n → Paired sides
    → (a b : Transfer) (x y : Bool) (j : ℕ) (t : Side) → is_of a x n ≡ true
    → slice_get (sides_of sides b y) j ≡ Some t → n.link ≡ t.link → (a ≡ b) × (length (sides_of sides a x) ≡ j)
own_new sides n (is_second p found total link) paired a b x y j t e there same =
    paired.own a b (not x) y (length (sides_of sides a x)) j p t (sym (peer_is sides n a x e) ∙ found) there
    (sym link ∙ same)
own_new sides n (is_first none free) paired a b x y j t e there same =
    let no : true ≡ false = sym (has_reserved (is_of b y) sides j t there) ∙ ap (is_reserved sides) (sym same) ∙ free in
    absurd (cc)

own_more : (sides : List Side) (n : Side) → Joins sides n → Paired sides → HaveOwnLinks (sides ++ n ∷ [])
own_more sides n join paired a b x y i j s t at_i at_j same =
    go (at_end sides n a x i s at_i) (at_end sides n b y j t at_j)
  where
    go : IsAt sides n a x i s → IsAt sides n b y j t → (a ≡ b) × (i ≡ j)
    go (inl u) (inl v) = paired.own a b x y i j s t u v same
    go (inr u) (inl v) =
        let k = own_new sides n join paired a b x y j t u.1 v (ap (λ (w : Side). w.link) (sym u.2) ∙ same) in
        (k.0, u.0 ∙ k.1)
    go (inl u) (inr v) =
        let k = own_new sides n join paired b a y x i s v.1 u (ap (λ (w : Side). w.link) (sym v.2) ∙ sym same) in
        (sym k.0, sym (v.0 ∙ k.1))
    go (inr u) (inr v) =
        let e = of_own a x n u.1 in
        let f = of_own b y n v.1 in
        let kind : a ≡ b = e.0 ∙ sym f.0 in
        let side : x ≡ y = e.1 ∙ sym f.1 in
        (kind, u.0 ∙ (λ k. length (sides_of sides (kind k) (side k))) ∙ sym v.0)

paired_more : (h : HubView) (rank : ℕ) (q : Request) (r : Reply) (k : HubView) → Steps h rank q r k → Paired h.sides
    → Paired k.sides
paired_more h rank q r k (is_none b e l) paired = subst (λ ts. Paired ts) (sym e) paired
paired_more h rank q r k (is_one n b e l join) paired =
    subst (λ ts. Paired ts) (sym e) (record {
      pairs = pairs_more h.sides n join paired;
      own = own_more h.sides n join paired;
    })

paired_on : (cs : List Call) (h : HubView) → Paired h.sides → Paired (hub_on h cs).sides
paired_on [] h paired = paired
paired_on (c ∷ cs) h paired = paired_on cs (outcome h c.0 c.1).1 (paired_more h c.0 c.1 _ _ (steps h c.0 c.1) paired)

paired_none : Paired []
paired_none = record { pairs = λ a i s r x y. absurd (cc); own = λ a b x y i j s t u v same. absurd (cc) }

-- ---- the sides are those that the calls began

added : (h : HubView) (rank : ℕ) (q : Request) (r : Reply) (k : HubView) → Steps h rank q r k
    → k.sides ≡ h.sides ++ begun rank q r
added h rank q r k (is_none b e l) = e ∙ sym (append-nil h.sides) ∙ ap (λ ts. h.sides ++ ts) (sym b)
added h rank q r k (is_one n b e l join) = e ∙ ap (λ ts. h.sides ++ ts) (sym b)

begun_more : (links : List Link) (calls before : List Call)
    → (hub_after links (before ++ calls)).sides ≡ (hub_after links before).sides ++ begun_behind links before calls
begun_more links [] before =
    ap (λ cs. (hub_after links cs).sides) (append-nil before) ∙ sym (append-nil (hub_after links before).sides)
begun_more links (c ∷ calls) before =
    let h = hub_after links before in
    let next : hub_after links (before ++ c ∷ []) ≡ (outcome h c.0 c.1).1 = hub_on-snoc before (hub_at_start links) c in
    let one : (hub_after links (before ++ c ∷ [])).sides ≡ h.sides ++ begun c.0 c.1 (reply_of links before c.0 c.1) =
    ap (λ (k : HubView). k.sides) next ∙ added h c.0 c.1 _ _ (steps h c.0 c.1) in
    ap (λ cs. (hub_after links cs).sides) (sym (append_assoc before (c ∷ []) calls))
    ∙ begun_more links calls (before ++ c ∷ [])
    ∙ ap (λ ts. ts ++ begun_behind links (before ++ c ∷ []) calls) one
    ∙ append_assoc h.sides (begun c.0 c.1 (reply_of links before c.0 c.1)) (begun_behind links (before ++ c ∷ []) calls)

pub sides_are : (links : List Link) (calls : List Call) → (hub_after links calls).sides ≡ begun_after links calls
sides_are links calls = begun_more links calls []

pub paired : (links : List Link) (calls : List Call) → Paired (begun_after links calls)
paired links calls = subst (λ ts. Paired ts) (sides_are links calls) (paired_on calls (hub_at_start links) paired_none)

pub pairs_law : PairsLaw
pairs_law = record { pairs = λ links calls. (paired links calls).pairs; own = λ links calls. (paired links calls).own }

-- ---- the cut that is told

links_more : (h : HubView) (rank : ℕ) (q : Request) (r : Reply) (k : HubView) → Steps h rank q r k → k.links ≡ h.links
links_more h rank q r k (is_none b e l) = l
links_more h rank q r k (is_one n b e l join) = l

pub links_on : (cs : List Call) (h : HubView) → (hub_on h cs).links ≡ h.links
links_on [] h = refl
links_on (c ∷ cs) h = links_on cs (outcome h c.0 c.1).1 ∙ links_more h c.0 c.1 _ _ (steps h c.0 c.1)

receives : (links : List Link) (rank link : ℕ) → is_receiver links rank link ≡ true → ReceivesOver links rank link
receives links rank link e = go (slice_get links link) refl e
  where
    go : (o : Option Link) → slice_get links link ≡ o → is_to rank o ≡ true → ReceivesOver links rank link
    go None f e = absurd (cc)
    go (Some l) f e = (l, f, eqb-true l.to rank e)

is_receiving : (links : List Link) (rank link : ℕ) → ReceivesOver links rank link → is_receiver links rank link ≡ true
is_receiving links rank link l = ap (is_to rank) l.1 ∙ eq-eqb l.0.to rank l.2

-- the side was begun by one of the calls
abbrev WasBegun : List Link → List Call → ℕ → Side → Type 0
WasBegun links calls link t = SenderBegan links calls link t.setup.parts t.setup.size

-- a sender that is found was begun by one of the calls
sender_began : (links : List Link) (calls before : List Call) (link : ℕ) (t : Side)
    → sender_over (begun_behind links before calls) link ≡ Some t
    → WasBegun links (before ++ calls) link t
sender_began links [] before link t h = absurd (cc)
sender_began links (c ∷ calls) before link t h =
    go c.1 refl (reply_of links before c.0 c.1) refl (begun_behind links (before ++ c ∷ []) calls)
    (λ g. subst (λ cs. WasBegun links cs link t) (append_assoc before (c ∷ []) calls)
    (sender_began links calls (before ++ c ∷ []) link t g)) h
  where
    here : (sends : Bool) (comm peer tag parts size k : ℕ) → c.1 ≡ Init sends comm peer tag parts size
        → reply_of links before c.0 c.1 ≡ reply.Link k
        → (rest : List Side) → (sender_over rest link ≡ Some t → WasBegun links (before ++ c ∷ calls) link t)
        → (b : Bool) → ((k == link) && sends) ≡ b
        → cond b (Some (numbered (setup_of c.0 sends comm peer tag parts size) k)) (sender_over rest link) ≡ Some t
        → WasBegun links (before ++ c ∷ calls) link t
    here sends comm peer tag parts size k e f rest later true p g =
        let a = and_parts (k == link) sends p in
        let asked : c.1 ≡ Init true comm peer tag parts size = e ∙ ap (λ x. Init x comm peer tag parts size) a.1 in
        let made : SenderBegan links (before ++ c ∷ calls) link parts size = record {
          before = before;
          after = calls;
          sender = c.0;
          comm = comm;
          dest = peer;
          tag = tag;
          made = ap (λ (x : Request). before ++ (c.0, x) ∷ calls) asked;
          answered = ap (λ (x : Request). reply_of links before c.0 x) (sym asked) ∙ f
              ∙ ap (λ x. reply.Link x) (eqb-true k link a.0);
        } in
        subst (λ (u : Side). WasBegun links (before ++ c ∷ calls) link u)
        (same_Some (numbered (setup_of c.0 sends comm peer tag parts size) k) t g) made
    here sends comm peer tag parts size k e f rest later false p g = later g

    go : (q : Request) → c.1 ≡ q → (r : Reply) → reply_of links before c.0 c.1 ≡ r
        → (rest : List Side) → (sender_over rest link ≡ Some t → WasBegun links (before ++ c ∷ calls) link t)
        → sender_over (begun c.0 q r ++ rest) link ≡ Some t → WasBegun links (before ++ c ∷ calls) link t
    go (Init sends comm peer tag parts size) e (reply.Link k) f rest later g =
        here sends comm peer tag parts size k e f rest later ((k == link) && sends) refl g
    go q e r f rest later g = later g

-- a side, with those before it and behind it
pub record Has (sides : List Side) (t : Side) : Type 0 where
  pub before : List Side
  pub behind : List Side
  pub is : sides ≡ before ++ t ∷ behind

found_has : (p : Side → Bool) (sides : List Side) (t : Side) → find p sides ≡ Some t → Has sides t
found_has p [] t h = absurd (cc)
found_has p (s ∷ sides) t h = go (p s) (λ g. found_has p sides t g) h
  where
    go : (b : Bool) → (find p sides ≡ Some t → Has sides t) → cond b (Some s) (find p sides) ≡ Some t
        → Has (s ∷ sides) t
    go true rec g = record { before = []; behind = sides; is = ap (λ u. u ∷ sides) (same_Some s t g) }
    go false rec g = (let r = rec g in record { before = s ∷ r.before; behind = r.behind; is = ap (λ ts. s ∷ ts) r.is })

find_none : (p : Side → Bool) (before behind : List Side) (t : Side) → p t ≡ true → find p (before ++ t ∷ behind) ≡ None
    → ⊥
find_none p [] behind t e h = (let no : Some t ≡ None = ap (λ b. cond b (Some t) (find p behind)) (sym e) ∙ h in cc)
find_none p (s ∷ before) behind t e h = go (p s) (λ g. find_none p before behind t e g) h
  where
    go : (b : Bool) → (find p (before ++ t ∷ behind) ≡ None → ⊥)
        → cond b (Some s) (find p (before ++ t ∷ behind)) ≡ None → ⊥
    go true rec g = (cc)
    go false rec g = rec g

seam : (before behind : List Side) (t : Side) → slice_get (before ++ t ∷ behind) (length before) ≡ Some t
seam [] behind t = refl
seam (s ∷ before) behind t = seam before behind t

pub has_place : (sides : List Side) (t : Side) → Has sides t → (a : Transfer) (x : Bool) → is_of a x t ≡ true
    → (i : ℕ) × (slice_get (sides_of sides a x) i ≡ Some t)
has_place sides t has a x e =
    let before = sides_of has.before a x in
    let behind = sides_of has.behind a x in (
      length before,
      ap (λ ts. slice_get (sides_of ts a x) (length before)) has.is
          ∙ ap (λ ts. slice_get ts (length before)) (filter-append (is_of a x) has.before (t ∷ has.behind))
          ∙ ap (λ b. slice_get (before ++ cond b (t ∷ behind) behind) (length before)) e
          ∙ seam before behind t,
    )

-- a link has one sender
one_sender : (sides : List Side) → Paired sides → (t u : Side) → Has sides t → Has sides u → t.setup.sending ≡ true
    → u.setup.sending ≡ true
    → t.link ≡ u.link → t ≡ u
one_sender sides paired t u has_t has_u sends_t sends_u link =
    let i = has_place sides t has_t (transfer_of t) true (is_of_own t sends_t) in
    let j = has_place sides u has_u (transfer_of u) true (is_of_own u sends_u) in
    let own = paired.own (transfer_of t) (transfer_of u) true true i.0 j.0 t u i.1 j.1 link in
    same_Some t u (sym i.1 ∙ (λ k. slice_get (sides_of sides (own.0 k) true) (own.1 k)) ∙ j.1)

begun_split : (links : List Link) (xs ys before : List Call)
    → begun_behind links before (xs ++ ys) ≡ begun_behind links before xs ++ begun_behind links (before ++ xs) ys
begun_split links [] ys before = ap (λ cs. begun_behind links cs ys) (sym (append-nil before))
begun_split links (c ∷ xs) ys before =
    let one = begun c.0 c.1 (reply_of links before c.0 c.1) in
    ap (λ ts. one ++ ts) (begun_split links xs ys (before ++ c ∷ []))
    ∙ ap (λ cs. one ++ (begun_behind links (before ++ c ∷ []) xs ++ begun_behind links cs ys))
    (append_assoc before (c ∷ []) xs)
    ∙ sym (append_assoc one (begun_behind links (before ++ c ∷ []) xs) (begun_behind links (before ++ c ∷ xs) ys))

-- the side that a call began is among the sides
abbrev side_of : (links : List Link) (calls : List Call) (link parts size : ℕ) → SenderBegan links calls link parts size
    → Side
side_of links calls link parts size b = numbered (setup_of b.sender true b.comm b.dest b.tag parts size) link

began_has : (links : List Link) (calls : List Call) (link parts size : ℕ) (b : SenderBegan links calls link parts size)
    → Has (begun_after links calls) (side_of links calls link parts size b)
began_has links calls link parts size b =
    let q : Request = Init true b.comm b.dest b.tag parts size in
    let behind = begun_behind links (b.before ++ (b.sender, q) ∷ []) b.after in
    record {
      before = begun_after links b.before;
      behind = behind;
      is = ap (λ cs. begun_after links cs) b.made ∙ begun_split links b.before ((b.sender, q) ∷ b.after) []
          ∙ ap (λ r. begun_after links b.before ++ (begun b.sender q r ++ behind)) b.answered;
    }

-- what is answered to a receiver or to another rank, where the sender's side is this
abbrev answer : HubView → Bool → Option Side → Reply
answer h c o = (let told : Reply × HubView = cond c (cut_of o, h) (reply.Code BadRequest, h) in told.0)

-- what a request for a cut comes to
data Cuts (links : List Link) (calls : List Call) (rank link : ℕ) (r : Reply) : Type 0 where
  is_refused : is_receiver links rank link ≡ false → r ≡ reply.Code BadRequest → Cuts links calls rank link r
  is_early : is_receiver links rank link ≡ true → sender_over (begun_after links calls) link ≡ None → r ≡ reply.NotYet
      → Cuts links calls rank link r
  is_told : (t : Side) → is_receiver links rank link ≡ true → sender_over (begun_after links calls) link ≡ Some t
      → r ≡ reply.Cut t.setup.parts t.setup.size → Cuts links calls rank link r

cuts : (links : List Link) (calls : List Call) (rank link : ℕ)
    → Cuts links calls rank link (reply_of links calls rank (Cut link))
cuts links calls rank link =
    go (hub_after links calls) (is_receiver links rank link) (sender_over (begun_after links calls) link) refl refl
    (λ i. answer (hub_after links calls)
    (is_receiver (links_on calls (hub_at_start links) i) rank link) (sender_over (sides_are links calls i) link))
  where
    go : (h : HubView) (c : Bool) (o : Option Side) → is_receiver links rank link ≡ c
        → sender_over (begun_after links calls) link ≡ o
        → reply_of links calls rank (Cut link)
        ≡ answer h (is_receiver links rank link) (sender_over (begun_after links calls) link)
        → Cuts links calls rank link (reply_of links calls rank (Cut link))
    go h false o e f r = is_refused e (r ∙ (λ i. answer h (e i) (f i)))
    go h true None e f r = is_early e f (r ∙ (λ i. answer h (e i) (f i)))
    go h true (Some t) e f r = is_told t e f (r ∙ (λ i. answer h (e i) (f i)))

no_receiver : (links : List Link) (rank link : ℕ) → is_receiver links rank link ≡ false → ReceivesOver links rank link
    → ⊥
no_receiver links rank link may_not l = (let q : true ≡ false = sym (is_receiving links rank link l) ∙ may_not in cc)

is_over : (link : ℕ) → ((link == link) && true) ≡ true
is_over link = ap (λ b. b && true) (eq-eqb link link refl)

-- where a sender was begun, one is found
never_none : (links : List Link) (calls : List Call) (link parts size : ℕ) → SenderBegan links calls link parts size
    → sender_over (begun_after links calls) link ≡ None → ⊥
never_none links calls link parts size b none =
    let has = began_has links calls link parts size b in
    find_none (is_sender_over link) has.before has.behind (side_of links calls link parts size b) (is_over link)
    (ap (λ ts. sender_over ts link) (sym has.is) ∙ none)

-- and it is the one that was begun
same_sender : (links : List Link) (calls : List Call) (link parts size : ℕ)
    (b : SenderBegan links calls link parts size) (t : Side)
    → sender_over (begun_after links calls) link ≡ Some t → t ≡ side_of links calls link parts size b
same_sender links calls link parts size b t found =
    let passes = and_parts (t.link == link) t.setup.sending
    (find_passes (is_sender_over link) (begun_after links calls) t found) in
    one_sender (begun_after links calls) (paired links calls) t (side_of links calls link parts size b)
    (found_has (is_sender_over link) (begun_after links calls) t found) (began_has links calls link parts size b)
    passes.1 refl (eqb-true t.link link passes.0)

cut_told : (links : List Link) (calls : List Call) (rank link parts size : ℕ) (r : Reply) → Cuts links calls rank link r
    → (r ≡ reply.Cut parts size) ↔ (ReceivesOver links rank link × SenderBegan links calls link parts size)
cut_told links calls rank link parts size r (is_refused may_not e) =
    (λ f. (let x = sym e ∙ f in absurd (cc)), λ h. absurd (no_receiver links rank link may_not h.0))
cut_told links calls rank link parts size r (is_early may none e) =
    (λ f. (let x = sym e ∙ f in absurd (cc)), λ h. absurd (never_none links calls link parts size h.1 none))
cut_told links calls rank link parts size r (is_told t may found e) = (
  λ f.
      (let x = sym e ∙ f in
      let p : t.setup.parts ≡ parts = (cc) in
      let s : t.setup.size ≡ size = (cc) in (
        receives links rank link may,
        subst (λ m. SenderBegan links calls link m size) p
            (subst (λ m. SenderBegan links calls link t.setup.parts m) s (sender_began links calls [] link t found)),
      )),
  λ h. e ∙ ap (λ (u : Side). reply.Cut u.setup.parts u.setup.size)
      (same_sender links calls link parts size h.1 t found),
)

cut_early : (links : List Link) (calls : List Call) (rank link : ℕ) (r : Reply) → Cuts links calls rank link r
    → (r ≡ reply.NotYet) ↔ (ReceivesOver links rank link × NoSenderBegan links calls link)
cut_early links calls rank link r (is_refused may_not e) =
    (λ f. (let x = sym e ∙ f in absurd (cc)), λ h. absurd (no_receiver links rank link may_not h.0))
cut_early links calls rank link r (is_early may none e) =
    (λ f. (receives links rank link may, λ parts size b. never_none links calls link parts size b none), λ h. e)
cut_early links calls rank link r (is_told t may found e) = (
  λ f. (let x = sym e ∙ f in absurd (cc)),
  λ h. (let began = sender_began links calls [] link t found in absurd (h.1 t.setup.parts t.setup.size began)),
)

cut_refused : (links : List Link) (calls : List Call) (rank link : ℕ) (r : Reply) → Cuts links calls rank link r
    → (r ≡ reply.Code BadRequest) ↔ ¬ ReceivesOver links rank link
cut_refused links calls rank link r (is_refused may_not e) = (λ f. no_receiver links rank link may_not, λ h. e)
cut_refused links calls rank link r (is_early may none e) =
    (λ f. (let x = sym e ∙ f in absurd (cc)), λ h. absurd (h (receives links rank link may)))
cut_refused links calls rank link r (is_told t may found e) =
    (λ f. (let x = sym e ∙ f in absurd (cc)), λ h. absurd (h (receives links rank link may)))

pub cut_law : CutLaw
cut_law = record {
  told = λ links calls rank link parts size. cut_told links calls rank link parts size _ (cuts links calls rank link);
  not_yet = λ links calls rank link. cut_early links calls rank link _ (cuts links calls rank link);
  refused = λ links calls rank link. cut_refused links calls rank link _ (cuts links calls rank link);
}
