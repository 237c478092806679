-- Initialisations of two ranks: what they are answered, and which sides they begin, is the same whichever is first.
use Rattle.std.proofs.Common.{◌≡◌, ◌∙◌, ℕ, zero, suc, ◌+◌, ◌*◌, ◌<◌, ◌≤◌, ◌⊎◌, inl, inr, refl, sym, ap, subst, arith, Bool, true, false, not, List, [], ◌∷◌, ◌++◌, length, get_or, Option, Some, None, append-nil, length-append}
use Rattle.std.specs.Prelude.{◌≢◌, ◌==◌, ◌&&◌, ◌||◌, cond, filter, find, option_map}
use Rattle.std.specs.List.{All, enumerate_from, list_any, slice_get}
use Rattle.std.specs.Option.{option_or}
use Rattle.std.proofs.lemmas.Bool.{and_left, and_parts, and_right, cases_Bool, cases_eq, eq-eqb, eqb-true}
use Rattle.std.proofs.lemmas.List.Elements.{All-filter, All-from_get_or, All-get_or, filter-append}
use Rattle.std.proofs.lemmas.List.Folds.{find-append, list_any-append, list_any_at}
use Rattle.std.proofs.lemmas.Option.{get_or_from_slice_get, same_Some, slice_get_past, slice_get_within}
use Rattle.rv_image_types.specs.declared.images.Link.{Link}
use Rattle.mp_types.specs.declared.codes.Code.TheVariants as code
use Rattle.mp_types.specs.declared.replies.Reply.{Reply}
use Rattle.mp_types.specs.declared.replies.Reply.TheVariants as reply
use Rattle.mp_types.specs.declared.requests.Request.{Request}
use Rattle.mp_types.specs.declared.requests.Request.TheVariants.{Init}
use Rattle.mp_match.proofs.Places.{get_front, get_last}
use Rattle.mp_transfers.specs.declared.sides.Setup.{Setup}
use Rattle.mp_transfers.specs.declared.sides.Side.{Side}
use Rattle.mp_transfers.specs.Inits.{is_for, is_other_side, is_reserved, is_same_side, is_sender_over, lowest_link, peer_of, same_total, same_transfer, sender_over}
use Rattle.mp_hub.specs.Hub.{Call, HubView, hub_after, hub_at_start, init_first, init_outcome, init_with, outcome, reply_of, setup_of, side_added, with_sides}
use Rattle.mp_hub.specs.Links.{GoesFrom}
use Rattle.mp_hub.proofs.Links.{links_law}
use Rattle.mp_hub.proofs.Transfers.{links_on, numbered}
use Rattle.mp_alike_laws.proofs.Sides.{SameSides}
use Rattle.cl_reduction_laws.specs.Patterns.{AreEnds}

-- ---- sides in another order

pub none_more : (o : Option Side) → option_or o None ≡ o
none_more None = refl
none_more (Some t) = refl

-- no transfer has sides of both lists on one of its sides, and no link has senders of both
pub record AreBeside (xs ys : List Side) : Type 0 where
  pub sides : (s : Setup) → (filter (is_same_side s) xs ≡ []) ⊎ (filter (is_same_side s) ys ≡ [])
  pub senders : (link : ℕ) → (sender_over xs link ≡ None) ⊎ (sender_over ys link ≡ None)

pub in_either_order : (ss xs ys : List Side) → AreBeside xs ys → SameSides ((ss ++ xs) ++ ys) ((ss ++ ys) ++ xs)
in_either_order ss xs ys apart = record {
  sides = λ s.
      filters (is_same_side s) xs ys
      ∙ lists (filter (is_same_side s) ss) (filter (is_same_side s) xs) (filter (is_same_side s) ys) (apart.sides s)
      ∙ sym (filters (is_same_side s) ys xs);
  reserved = λ link.
      tests (λ (t : Side). t.link == link) xs ys
      ∙ bools (is_reserved ss link) (is_reserved xs link) (is_reserved ys link)
      ∙ sym (tests (λ (t : Side). t.link == link) ys xs);
  senders = λ link.
      searches (is_sender_over link) xs ys
      ∙ found (sender_over ss link) (sender_over xs link) (sender_over ys link) (apart.senders link)
      ∙ sym (searches (is_sender_over link) ys xs);
}
  where
    filters : (f : Side → Bool) (us vs : List Side)
        → filter f ((ss ++ vs) ++ us) ≡ (filter f ss ++ filter f vs) ++ filter f us
    filters f us vs = filter-append f (ss ++ vs) us ∙ ap (λ l. l ++ filter f us) (filter-append f ss vs)

    lists : (a b c : List Side) → (b ≡ []) ⊎ (c ≡ []) → (a ++ c) ++ b ≡ (a ++ b) ++ c
    lists a b c (inl none) =
        ap (λ l. (a ++ c) ++ l) none ∙ append-nil (a ++ c)
        ∙ sym (ap (λ l. (a ++ l) ++ c) none ∙ ap (λ l. l ++ c) (append-nil a))
    lists a b c (inr none) =
        ap (λ l. (a ++ l) ++ b) none ∙ ap (λ l. l ++ b) (append-nil a)
        ∙ sym (ap (λ l. (a ++ b) ++ l) none ∙ append-nil (a ++ b))

    tests : (f : Side → Bool) (us vs : List Side)
        → list_any f ((ss ++ vs) ++ us) ≡ ((list_any f ss || list_any f vs) || list_any f us)
    tests f us vs = list_any-append f (ss ++ vs) us ∙ ap (λ b. b || list_any f us) (list_any-append f ss vs)

    bools : (a b c : Bool) → ((a || c) || b) ≡ ((a || b) || c)
    bools true b c = refl
    bools false true true = refl
    bools false true false = refl
    bools false false true = refl
    bools false false false = refl

    searches : (f : Side → Bool) (us vs : List Side)
        → find f ((ss ++ vs) ++ us) ≡ option_or (option_or (find f ss) (find f vs)) (find f us)
    searches f us vs = find-append f (ss ++ vs) us ∙ ap (λ o. option_or o (find f us)) (find-append f ss vs)

    found : (a b c : Option Side) → (b ≡ None) ⊎ (c ≡ None) → option_or (option_or a c) b ≡ option_or (option_or a b) c
    found (Some t) b c none = refl
    found None b c (inl none) = ap (option_or c) none ∙ none_more c ∙ sym (ap (λ o. option_or o c) none)
    found None b c (inr none) = ap (λ o. option_or o b) none ∙ sym (ap (option_or b) none ∙ none_more b)

-- ---- what an initialisation is answered

-- by the lowest link that is free for it, or by its peer
abbrev first_told : Option ℕ → Reply
first_told None = reply.Code code.NoChannel
first_told (Some link) = reply.Link link

abbrev second_told : Setup → Option ℕ → Option Side → Reply
second_told s lowest None = first_told lowest
second_told s lowest (Some p) = cond (same_total s p.setup) (reply.Link p.link) (reply.Code code.Shape)

abbrev pub told : List Link → List Side → Setup → Reply
told links sides s = second_told s (lowest_link links sides s) (peer_of sides s)

-- the side that it begins, unless it is refused
abbrev pub started : Setup → Reply → List Side
started s (reply.Link link) = numbered s link ∷ []
started s _ = []

-- what it is answered, and the hub then
abbrev Outcome : HubView → Setup → Reply → Reply × HubView
Outcome h s r = (r, with_sides h (h.sides ++ started s r))

pub init_is : (h : HubView) (s : Setup) → init_outcome h s ≡ Outcome h s (told h.links h.sides s)
init_is h s = go (peer_of h.sides s)
  where
    refused : (r : Reply) → started s r ≡ [] → (let o : Reply × HubView = (r, h) in o ≡ Outcome h s r)
    refused r none =
        ap (λ ts. (let o : Reply × HubView = (r, with_sides h ts) in o))
        (sym (ap (λ ts. h.sides ++ ts) none ∙ append-nil h.sides))

    first : (o : Option ℕ) → init_first h s o ≡ Outcome h s (first_told o)
    first None = refused (reply.Code code.NoChannel) refl
    first (Some link) = refl

    second : (p : Side) (b : Bool)
        → cond b (side_added h s p.link) (reply.Code code.Shape, h)
        ≡ Outcome h s (cond b (reply.Link p.link) (reply.Code code.Shape))
    second p true = refl
    second p false = refused (reply.Code code.Shape) refl

    go : (o : Option Side) → init_with h s o ≡ Outcome h s (second_told s (lowest_link h.links h.sides s) o)
    go None = first (lowest_link h.links h.sides s)
    go (Some p) = second p (same_total s p.setup)

-- two tests that agree on each link find the same
find_same : (p q : ℕ × Link → Bool) (n : ℕ) (links : List Link)
    → ((i k : ℕ) (l : Link) → i ≡ n + k → slice_get links k ≡ Some l → q (i, l) ≡ p (i, l))
    → find q (enumerate_from n links) ≡ find p (enumerate_from n links)
find_same p q n [] each = refl
find_same p q n (x ∷ links) each =
    ap (λ b. cond b (Some (n, x)) (find q (enumerate_from (n + 1) links))) (each n 0 x (omega arith) refl)
    ∙ ap (λ (o : Option (ℕ × Link)). cond (p (n, x)) (Some (n, x)) o)
    (find_same p q (n + 1) links (λ i k l is at. each i (suc k) l (omega (arith, is)) at))

-- a new side, whose link is free for no transfer of this setup, or was taken before, leaves the lowest one that is
module _ (links : List Link) (sides : List Side) (s : Setup) (n : Side)
    (each : (l : Link) → slice_get links n.link ≡ Some l
    → (((l.from == s.from) && (l.to == s.to)) ≡ false) ⊎ (is_reserved sides n.link ≡ true)) where
  abbrev more : List Side
  more = sides ++ n ∷ []

  lowest_kept : lowest_link links more s ≡ lowest_link links sides s
  lowest_kept = ap (option_map (λ (l : ℕ × Link). l.0)) (find_same (is_for sides s) (is_for more s) 0 links same)
    where
      reserved_more : (i : ℕ) → is_reserved more i ≡ (is_reserved sides i || ((n.link == i) || false))
      reserved_more i = list_any-append (λ (t : Side). t.link == i) sides (n ∷ [])

      plain : (a : Bool) → (a || false) ≡ a
      plain true = refl
      plain false = refl

      same : (i k : ℕ) (l : Link) → i ≡ 0 + k → slice_get links k ≡ Some l → is_for more s (i, l) ≡ is_for sides s (i, l)
      same i k l is at = elim (cases_Bool (n.link == i)) [
        | inl its ↦
            let number : k ≡ n.link = (let e = eqb-true n.link i its in omega (arith, is, e)) in
            taken (each l (ap (slice_get links) (sym number) ∙ at)) (eqb-true n.link i its)
        | inr other ↦
            ap (λ b. ((l.from == s.from) && (l.to == s.to)) && not b)
            (reserved_more i ∙ ap (λ b. is_reserved sides i || (b || false)) other ∙ plain (is_reserved sides i))
      ]
        where
          taken : (((l.from == s.from) && (l.to == s.to)) ≡ false) ⊎ (is_reserved sides n.link ≡ true) → n.link ≡ i
              → is_for more s (i, l) ≡ is_for sides s (i, l)
          taken (inl off) e =
              and_left ((l.from == s.from) && (l.to == s.to)) (not (is_reserved more i)) off
              ∙ sym (and_left ((l.from == s.from) && (l.to == s.to)) (not (is_reserved sides i)) off)
          taken (inr on) e =
              let before : is_reserved sides i ≡ true = ap (is_reserved sides) (sym e) ∙ on in
              ap (λ b. ((l.from == s.from) && (l.to == s.to)) && not b)
              (reserved_more i ∙ ap (λ b. b || ((n.link == i) || false)) before ∙ sym before)

-- ---- behind a side of a link that joins other ranks

-- the same sender and the same receiver
abbrev AreJoined : Setup → Setup → Type 0
AreJoined s t = (t.from ≡ s.from) × (t.to ≡ s.to)

module _ (links : List Link) (sides : List Side) (s : Setup) (n : Side)
    (goes : GoesFrom links n.setup.from n.setup.to n.link) (apart : AreJoined s n.setup → ⊥) where
  no_transfer : same_transfer s n.setup ≡ false
  no_transfer = elim (cases_Bool (same_transfer s n.setup)) [
    | inl same ↦
        let t = n.setup in
        let b = and_parts ((t.comm == s.comm) && (t.from == s.from) && (t.to == s.to)) (t.tag == s.tag) same in
        let c = and_parts ((t.comm == s.comm) && (t.from == s.from)) (t.to == s.to) b.0 in
        let d = and_parts (t.comm == s.comm) (t.from == s.from) c.0 in
        absurd (apart (eqb-true t.from s.from d.1, eqb-true t.to s.to c.1))
    | inr other ↦ other
  ]

  filter_kept : (f : Side → Bool) → f n ≡ false → filter f (sides ++ n ∷ []) ≡ filter f sides
  filter_kept f none =
      filter-append f sides (n ∷ []) ∙ ap (λ b. filter f sides ++ cond b (n ∷ []) []) none ∙ append-nil (filter f sides)

  peer_kept : peer_of (sides ++ n ∷ []) s ≡ peer_of sides s
  peer_kept =
      ap (λ xs. slice_get xs (length (filter (is_same_side s) (sides ++ n ∷ []))))
      (filter_kept (is_other_side s) (and_left (same_transfer s n.setup) _ no_transfer))
      ∙ ap (λ (xs : List Side). slice_get (filter (is_other_side s) sides) (length xs))
      (filter_kept (is_same_side s) (and_left (same_transfer s n.setup) _ no_transfer))

  pub told_beside : told links (sides ++ n ∷ []) s ≡ told links sides s
  told_beside =
      ap (second_told s (lowest_link links (sides ++ n ∷ []) s)) peer_kept
      ∙ ap (λ o. second_told s o (peer_of sides s)) (lowest_kept links sides s n joins)
    where
      joins : (l : Link) → slice_get links n.link ≡ Some l
          → (((l.from == s.from) && (l.to == s.to)) ≡ false) ⊎ (is_reserved sides n.link ≡ true)
      joins l at = elim (cases_Bool ((l.from == s.from) && (l.to == s.to))) [
        | inl on ↦
            let same : goes.0 ≡ l = same_Some goes.0 l (sym goes.1 ∙ at) in
            let ends = and_parts (l.from == s.from) (l.to == s.to) on in
            absurd (apart (
              sym goes.2 ∙ ap (λ (k : Link). k.from) same ∙ eqb-true l.from s.from ends.0,
              sym goes.3 ∙ ap (λ (k : Link). k.to) same ∙ eqb-true l.to s.to ends.1,
            ))
        | inr off ↦ inl off
      ]

-- ---- behind the other side of the transfer

-- the setups of the two sides of a transfer, which have as many bytes
pub record AreTwo (x y : Setup) : Type 0 where
  pub other : is_other_side x ≡ is_same_side y
  pub back : is_other_side y ≡ is_same_side x
  pub own : (link : ℕ) → is_same_side y (numbered y link) ≡ true
  pub none : (link : ℕ) → is_same_side x (numbered y link) ≡ false
  pub from : y.from ≡ x.from
  pub to : y.to ≡ x.to
  pub total : same_total x y ≡ true

pub two_sides : (sends gives : Bool) (r s comm tag parts size cuts each : ℕ) → sends ≡ not gives
    → parts * size ≡ cuts * each
    → AreTwo (setup_of r sends comm s tag parts size) (setup_of s gives comm r tag cuts each)
two_sides true true r s comm tag parts size cuts each is total = absurd (cc)
two_sides false false r s comm tag parts size cuts each is total = absurd (cc)
two_sides true false r s comm tag parts size cuts each is total = record {
  other = refl;
  back = refl;
  own = λ link i. (eq-eqb comm comm refl i && eq-eqb r r refl i) && eq-eqb s s refl i && eq-eqb tag tag refl i && true;
  none = λ link. and_right _ false refl;
  from = refl;
  to = refl;
  total = eq-eqb (cuts * each) (parts * size) (sym total);
}
two_sides false true r s comm tag parts size cuts each is total = record {
  other = refl;
  back = refl;
  own = λ link i. (eq-eqb comm comm refl i && eq-eqb s s refl i) && eq-eqb r r refl i && eq-eqb tag tag refl i && true;
  none = λ link. and_right _ false refl;
  from = refl;
  to = refl;
  total = eq-eqb (cuts * each) (parts * size) (sym total);
}

-- a side's link is reserved
link_is_reserved : (f : Side → Bool) (sides : List Side) (j : ℕ) (p : Side) → slice_get (filter f sides) j ≡ Some p
    → is_reserved sides p.link ≡ true
link_is_reserved f sides j p at =
    let own : All (λ (t : Side). is_reserved sides t.link ≡ true) sides =
    All-from_get_or (λ (t : Side). is_reserved sides t.link ≡ true) sides p here in
    let kept = All-filter f (λ (t : Side). is_reserved sides t.link ≡ true) sides own in
    subst (λ (t : Side). is_reserved sides t.link ≡ true) (get_or_from_slice_get (filter f sides) j p p at)
    (All-get_or (λ (t : Side). is_reserved sides t.link ≡ true) (filter f sides) j p
    (slice_get_within (filter f sides) j p at) kept)
  where
    here : (i : ℕ) → i < length sides → is_reserved sides (get_or sides i p).link ≡ true
    here i low =
        list_any_at (λ (t : Side). t.link == (get_or sides i p).link) sides i p low
        (eq-eqb (get_or sides i p).link (get_or sides i p).link refl)

module _ (links : List Link) (sides : List Side) (x y : Setup) (two : AreTwo x y) (link : ℕ)
    (was : told links sides y ≡ reply.Link link) where
  abbrev n : Side
  n = numbered y link

  abbrev mine : List Side
  mine = filter (is_same_side x) sides

  abbrev theirs : List Side
  theirs = filter (is_same_side y) sides

  abbrev then : List Side
  then = sides ++ n ∷ []

  peer_now : peer_of sides x ≡ slice_get theirs (length mine)
  peer_now = ap (λ (f : Side → Bool). slice_get (filter f sides) (length mine)) two.other

  peer_theirs : peer_of sides y ≡ slice_get mine (length theirs)
  peer_theirs = ap (λ (f : Side → Bool). slice_get (filter f sides) (length theirs)) two.back

  peer_then : peer_of then x ≡ slice_get (theirs ++ n ∷ []) (length mine)
  peer_then =
      ap (λ (f : Side → Bool). slice_get (filter f then) (length (filter (is_same_side x) then))) two.other
      ∙ ap (λ (xs : List Side). slice_get xs (length (filter (is_same_side x) then)))
      (filter-append (is_same_side y) sides (n ∷ []) ∙ ap (λ b. theirs ++ cond b (n ∷ []) []) (two.own link))
      ∙ ap (λ (xs : List Side). slice_get (theirs ++ n ∷ []) (length xs))
      (filter-append (is_same_side x) sides (n ∷ []) ∙ ap (λ b. mine ++ cond b (n ∷ []) []) (two.none link)
      ∙ append-nil mine)

  lowest_theirs : lowest_link links sides y ≡ lowest_link links sides x
  lowest_theirs =
      λ i. option_map (λ (l : ℕ × Link). l.0)
      (find (λ (l : ℕ × Link). (l.1.from == (two.from) i) && (l.1.to == (two.to) i) && not (is_reserved sides l.0))
      (enumerate_from 0 links))

  told_by : (o : Option Side) → peer_of sides x ≡ o → told links sides x ≡ second_told x (lowest_link links sides x) o
  told_by o is = ap (second_told x (lowest_link links sides x)) is

  told_then : (o : Option Side) → peer_of then x ≡ o → told links then x ≡ second_told x (lowest_link links then x) o
  told_then o is = ap (second_told x (lowest_link links then x)) is

  -- y joined a side, so there are more of x's kind, and x joins none
  y_second : (p : Side) → slice_get mine (length theirs) ≡ Some p → told links then x ≡ told links sides x
  y_second p at =
      let low : length theirs < length mine = slice_get_within mine (length theirs) p at in
      let long = length-append theirs (n ∷ []) in
      told_then None (peer_then ∙ slice_get_past (theirs ++ n ∷ []) (length mine) (omega (arith, low, long)))
      ∙ ap first_told (lowest_kept links sides x n (λ l there. inr reserved))
      ∙ sym (told_by None (peer_now ∙ slice_get_past theirs (length mine) (omega (arith, low))))
    where
      same_link : (b : Bool) → cond b (reply.Link p.link) (reply.Code code.Shape) ≡ reply.Link link → p.link ≡ link
      same_link true e = cc
      same_link false e = absurd (cc)

      reserved : is_reserved sides link ≡ true
      reserved =
          ap (is_reserved sides)
          (sym (same_link (same_total y p.setup)
          (sym (ap (second_told y (lowest_link links sides y)) (peer_theirs ∙ at)) ∙ was)))
          ∙ link_is_reserved (is_same_side x) sides (length theirs) p at

  -- y took a link, which x joins if they are as many, and else x joins the side that it would have joined
  y_first : slice_get mine (length theirs) ≡ None → (o : Option Side) → slice_get theirs (length mine) ≡ o
      → told links then x ≡ told links sides x
  y_first none (Some p) at =
      told_then (Some p) (peer_then ∙ get_front theirs (n ∷ []) (length mine) p at) ∙ sym (told_by (Some p) (peer_now ∙ at))
  y_first none None at =
      let even : length mine ≡ length theirs = (let a = past mine (length theirs) none in let b = past theirs (length mine) at in omega (arith, a, b)) in
      told_then (Some n) (peer_then ∙ ap (slice_get (theirs ++ n ∷ [])) even ∙ get_last theirs n)
      ∙ ap (λ b. cond b (reply.Link link) (reply.Code code.Shape)) two.total
      ∙ sym (told_by None (peer_now ∙ at) ∙ ap first_told (sym lowest_theirs)
      ∙ sym (ap (second_told y (lowest_link links sides y)) (peer_theirs ∙ none)) ∙ was)
    where
      past : (xs : List Side) (i : ℕ) → slice_get xs i ≡ None → length xs ≤ i
      past [] i e = omega arith
      past (t ∷ xs) zero e = absurd (cc)
      past (t ∷ xs) (suc i) e = (let low = past xs i e in omega (arith, low))

  pub told_behind : told links then x ≡ told links sides x
  told_behind = go (slice_get mine (length theirs)) refl
    where
      go : (o : Option Side) → slice_get mine (length theirs) ≡ o → told links then x ≡ told links sides x
      go (Some p) e = y_second p e
      go None e = y_first e (slice_get theirs (length mine)) refl

-- ---- two calls

not_back : (a b : Bool) → a ≡ not b → b ≡ not a
not_back true true e = absurd (cc)
not_back true false e = refl
not_back false true e = refl
not_back false false e = absurd (cc)

-- the link that an initialisation is given goes from its sender to its receiver
link_goes : (links : List Link) (calls : List Call) (s : ℕ) (gives : Bool) (comm whom tag cuts each link : ℕ)
    → reply_of links calls s (Init gives comm whom tag cuts each) ≡ reply.Link link
    → GoesFrom links (cond gives s whom) (cond gives whom s) link
link_goes links calls s true comm whom tag cuts each link = (links_law.sending) links calls s comm whom tag cuts each link
link_goes links calls s false comm whom tag cuts each link = (links_law.receiving) links calls s comm whom tag cuts each link

module _ (links : List Link) (calls : List Call) (r s : ℕ) (apart : r ≢ s)
    (sends : Bool) (comm peer tag parts size : ℕ) (gives : Bool) (other whom label cuts each : ℕ)
    (may : AreEnds r sends peer s gives whom → (comm ≡ other) × (tag ≡ label) × (parts * size ≡ cuts * each)) where
  abbrev h : HubView
  h = hub_after links calls

  abbrev x : Setup
  x = setup_of r sends comm peer tag parts size

  abbrev y : Setup
  y = setup_of s gives other whom label cuts each

  abbrev its : Reply
  its = told h.links h.sides y

  -- what joins the same two ranks has them as its two ends
  ends : (a b : Bool) → cond b s whom ≡ cond a r peer → cond b whom s ≡ cond a peer r → AreEnds r a peer s b whom
  ends true true from to = absurd (apart (sym from))
  ends false false from to = absurd (apart (sym to))
  ends true false from to = (refl, sym to, from)
  ends false true from to = (refl, sym from, to)

  are_two : AreEnds r sends peer s gives whom → AreTwo x y
  are_two e =
      let m = may e in
      subst (λ v. AreTwo (setup_of r sends comm v tag parts size) y) (sym e.1)
      (subst (λ v. AreTwo (setup_of r sends comm s tag parts size) (setup_of s gives v whom label cuts each)) m.0
      (subst (λ v. AreTwo (setup_of r sends comm s tag parts size) (setup_of s gives comm v label cuts each)) (sym e.2)
      (subst (λ v. AreTwo (setup_of r sends comm s tag parts size) (setup_of s gives comm r v cuts each)) m.1
      (two_sides sends gives r s comm tag parts size cuts each e.0 m.2))))

  -- r is answered the same behind the initialisation of s
  pub told_kept : told h.links (h.sides ++ started y its) x ≡ told h.links h.sides x
  told_kept = go its refl
    where
      joins : (link : ℕ) → its ≡ reply.Link link → told h.links (h.sides ++ numbered y link ∷ []) x ≡ told h.links h.sides x
      joins link is = elim (cases_eq y.from x.from) [
        | inl from ↦ elim (cases_eq y.to x.to) [
          | inl to ↦ told_behind h.links h.sides x y (are_two (ends sends gives from to)) link is
          | inr off ↦ told_beside h.links h.sides x (numbered y link) goes (λ e. off e.1)
        ]
        | inr off ↦ told_beside h.links h.sides x (numbered y link) goes (λ e. off e.0)
      ]
        where
          goes : GoesFrom h.links y.from y.to link
          goes =
              subst (λ ls. GoesFrom ls y.from y.to link) (sym (links_on calls (hub_at_start links)))
              (link_goes links calls s gives other whom label cuts each link
              (ap (λ (o : Reply × HubView). o.0) (init_is h y) ∙ is))

      go : (o : Reply) → its ≡ o → told h.links (h.sides ++ started y o) x ≡ told h.links h.sides x
      go (reply.Link link) is = joins link is
      go _ is = ap (λ ts. told h.links ts x) (append-nil h.sides)

  -- so is the hub, but for the order of the sides
  pub then_is : outcome (outcome h s (Init gives other whom label cuts each)).1 r (Init sends comm peer tag parts size)
      ≡ (told h.links h.sides x, with_sides h ((h.sides ++ started y its) ++ started x (told h.links h.sides x)))
  then_is =
      ap (λ (o : Reply × HubView). init_outcome o.1 x) (init_is h y)
      ∙ init_is (with_sides h (h.sides ++ started y its)) x
      ∙ ap (λ v. (let o : Reply × HubView = (v, with_sides h ((h.sides ++ started y its) ++ started x v)) in o)) told_kept

-- a side is of its own rank
own_rank : (t : Setup) (r : ℕ) (sends : Bool) (comm peer tag parts size link : ℕ)
    → is_same_side t (numbered (setup_of r sends comm peer tag parts size) link) ≡ true
    → cond t.sending t.from t.to ≡ r
own_rank t r sends comm peer tag parts size link is =
    let s = setup_of r sends comm peer tag parts size in
    let a = and_parts (same_transfer t s) (cond t.sending sends (not sends)) is in
    let b = and_parts ((comm == t.comm) && (s.from == t.from) && (s.to == t.to)) (tag == t.tag) a.0 in
    let c = and_parts ((comm == t.comm) && (s.from == t.from)) (s.to == t.to) b.0 in
    let d = and_parts (comm == t.comm) (s.from == t.from) c.0 in
    go t.sending sends (eqb-true s.from t.from d.1) (eqb-true s.to t.to c.1) a.1
  where
    go : (a b : Bool) → cond b r peer ≡ t.from → cond b peer r ≡ t.to → cond a b (not b) ≡ true → cond a t.from t.to ≡ r
    go true true from to e = sym from
    go true false from to e = absurd (cc)
    go false true from to e = absurd (cc)
    go false false from to e = sym to

module _ (links : List Link) (calls : List Call) (r s : ℕ) (apart : r ≢ s)
    (sends : Bool) (comm peer tag parts size : ℕ) (gives : Bool) (other whom label cuts each : ℕ)
    (may : AreEnds r sends peer s gives whom → (comm ≡ other) × (tag ≡ label) × (parts * size ≡ cuts * each)) where
  abbrev now : HubView
  now = hub_after links calls

  abbrev my_call : Request
  my_call = Init sends comm peer tag parts size

  abbrev its_call : Request
  its_call = Init gives other whom label cuts each

  abbrev one : Setup
  one = setup_of r sends comm peer tag parts size

  abbrev two : Setup
  two = setup_of s gives other whom label cuts each

  abbrev my_reply : Reply
  my_reply = told now.links now.sides one

  abbrev its_reply : Reply
  its_reply = told now.links now.sides two

  ends_back : AreEnds s gives whom r sends peer → (other ≡ comm) × (label ≡ tag) × (cuts * each ≡ parts * size)
  ends_back e = (let m = may (not_back gives sends e.0, e.2, e.1) in (sym m.0, sym m.1, sym m.2))

  behind_its : outcome (outcome now s its_call).1 r my_call
      ≡ (my_reply, with_sides now ((now.sides ++ started two its_reply) ++ started one my_reply))
  behind_its =
      then_is links calls r s apart sends comm peer tag parts size gives other whom label cuts each may

  behind_mine : outcome (outcome now r my_call).1 s its_call
      ≡ (its_reply, with_sides now ((now.sides ++ started one my_reply) ++ started two its_reply))
  behind_mine =
      then_is links calls s r (λ e. apart (sym e)) gives other whom label cuts each sends comm peer tag parts size ends_back

  abbrev Beside : Reply → Reply → Type 0
  Beside a b = AreBeside (started two a) (started one b)

  both_begun : (n m : ℕ) → its_reply ≡ reply.Link n → my_reply ≡ reply.Link m → Beside (reply.Link n) (reply.Link m)
  both_begun n m at also = record {
    sides = λ t. elim (cases_Bool (is_same_side t (numbered two n))) [
      | inl on ↦ elim (cases_Bool (is_same_side t (numbered one m))) [
        | inl too ↦ absurd (apart (sym (own_rank t r sends comm peer tag parts size m too)
            ∙ own_rank t s gives other whom label cuts each n on))
        | inr off ↦ inr (ap (λ b. cond b (numbered one m ∷ []) []) off)
      ]
      | inr off ↦ inl (ap (λ b. cond b (numbered two n ∷ []) []) off)
    ];
    senders = λ link. elim (cases_Bool (is_sender_over link (numbered two n))) [
      | inl on ↦ elim (cases_Bool (is_sender_over link (numbered one m))) [
        | inl too ↦
            let a = and_parts (n == link) gives on in
            let b = and_parts (m == link) sends too in
            absurd (one_sender gives sends a.1 b.1 (eqb-true n link a.0 ∙ sym (eqb-true m link b.0))
            (link_goes links calls s gives other whom label cuts each n (ap (λ (o : Reply × HubView). o.0) (init_is now two) ∙ at))
            (link_goes links calls r sends comm peer tag parts size m (ap (λ (o : Reply × HubView). o.0) (init_is now one) ∙ also)))
        | inr off ↦ inr (ap (λ b. cond b (Some (numbered one m)) None) off)
      ]
      | inr off ↦ inl (ap (λ b. cond b (Some (numbered two n)) None) off)
    ];
  }
    where
      -- a link has one sender
      one_sender : (a b : Bool) → a ≡ true → b ≡ true → n ≡ m → GoesFrom links (cond a s whom) (cond a whom s) n
          → GoesFrom links (cond b r peer) (cond b peer r) m → ⊥
      one_sender true true on too same goes also =
          apart (sym also.2
          ∙ ap (λ (l : Link). l.from) (same_Some also.0 goes.0 (sym also.1 ∙ ap (slice_get links) (sym same) ∙ goes.1))
          ∙ goes.2)
      one_sender false b on too same goes also = absurd (cc)
      one_sender true false on too same goes also = absurd (cc)

  beside : AreBeside (started two its_reply) (started one my_reply)
  beside = go its_reply refl
    where
      none_here : (b : Reply) → AreBeside [] (started one b)
      none_here b = record { sides = λ t. inl refl; senders = λ link. inl refl }

      none_there : (a : Reply) → AreBeside (started two a) []
      none_there a = record { sides = λ t. inr refl; senders = λ link. inr refl }

      second : (n : ℕ) → its_reply ≡ reply.Link n → (b : Reply) → my_reply ≡ b → Beside (reply.Link n) b
      second n at (reply.Link m) also = both_begun n m at also
      second n at _ also = none_there (reply.Link n)

      go : (a : Reply) → its_reply ≡ a → Beside a my_reply
      go (reply.Link n) at = second n at my_reply refl
      go _ at = none_here my_reply

  -- whichever is first, both are told the same, and the same sides are begun
  pub record AreBothBegun : Type 0 where
    pub mine_told : (outcome now r my_call).0 ≡ (outcome (outcome now s its_call).1 r my_call).0
    pub its_told : (outcome (outcome now r my_call).1 s its_call).0 ≡ (outcome now s its_call).0
    pub sides : List Side
    pub others : List Side
    pub its_first : (outcome (outcome now s its_call).1 r my_call).1 ≡ with_sides now sides
    pub mine_first : (outcome (outcome now r my_call).1 s its_call).1 ≡ with_sides now others
    pub same : SameSides sides others

  pub both_begin : AreBothBegun
  both_begin = record {
    mine_told = ap (λ (o : Reply × HubView). o.0) (init_is now one) ∙ sym (ap (λ (o : Reply × HubView). o.0) behind_its);
    its_told = ap (λ (o : Reply × HubView). o.0) behind_mine ∙ sym (ap (λ (o : Reply × HubView). o.0) (init_is now two));
    sides = (now.sides ++ started two its_reply) ++ started one my_reply;
    others = (now.sides ++ started one my_reply) ++ started two its_reply;
    its_first = ap (λ (o : Reply × HubView). o.1) behind_its;
    mine_first = ap (λ (o : Reply × HubView). o.1) behind_mine;
    same = in_either_order now.sides (started two its_reply) (started one my_reply) beside;
  }
