-- The two sides of a link.
use Rattle.std.proofs.Common.{◌≡◌, ℕ, zero, suc, ◌+◌, inl, inr, List, [], ◌∷◌, ◌++◌, length, Bool, true, false, cond, not, Option, Some, None, refl, sym, ap, ◌∙◌, subst, arith}
use Rattle.std.specs.Prelude.{◌==◌, ◌&&◌, ◌||◌, filter, find, option_map}
use Rattle.std.specs.List.{slice_get, enumerate_from}
use Rattle.std.proofs.lemmas.Bool.{and_parts, eqb-true, eq-eqb}
use Rattle.std.proofs.lemmas.Option.{same_Some}
use Rattle.rv_image_types.specs.declared.images.Link.{Link}
use Rattle.mp_types.specs.declared.codes.Code.TheVariants.{NoChannel, Shape}
use Rattle.mp_types.specs.declared.replies.Reply.{Reply}
use Rattle.mp_types.specs.declared.replies.Reply.TheVariants as reply
use Rattle.mp_types.specs.declared.requests.Request.{Request}
use Rattle.mp_types.specs.declared.requests.Request.TheVariants.{Init}
use Rattle.mp_match.proofs.Places.{get_snoc, get_within}
use Rattle.mp_transfers.specs.declared.sides.Setup.{Setup}
use Rattle.mp_transfers.specs.declared.sides.Side.{Side}
use Rattle.mp_transfers.proofs.Links.{first_for, not_found}
use Rattle.mp_transfers.specs.Inits.{peer_of, is_other_side, same_transfer, is_reserved, is_for, lowest_link, same_total}
use Rattle.mp_hub.specs.Hub.{HubView, Call, outcome, init_outcome, init_with, init_first, side_added, setup_of, hub_after, hub_at_start}
use Rattle.mp_hub.specs.Transfers.{begun, begun_after, is_of, sides_of}
use Rattle.mp_hub.specs.Links.{GoesFrom, IsTaken, IsOneTransfer, LinksLaw}
use Rattle.mp_hub.proofs.Histories.{call_by_call, hub_more}
use Rattle.mp_hub.proofs.Transfers.{Joins, Steps, is_none, is_one, steps, Paired, paired, own_new, Has, has_place, sides_are, numbered, transfer_of, links_on}

-- ---- each side goes over a link of its own two ranks

abbrev GoWell : List Link → List Side → Type 0
GoWell links sides =
    (i : ℕ) (t : Side) → slice_get sides i ≡ Some t → GoesFrom links t.setup.from t.setup.to t.link

filter_at : (p : Side → Bool) (sides : List Side) (i : ℕ) (t : Side) → slice_get (filter p sides) i ≡ Some t
    → (p t ≡ true) × ((j : ℕ) × (slice_get sides j ≡ Some t))
filter_at p [] i t h = absurd (cc)
filter_at p (s ∷ sides) i t h = go (p s) refl i (λ k g. filter_at p sides k t g) h
  where
    go : (b : Bool) → p s ≡ b → (i : ℕ)
        → ((k : ℕ) → slice_get (filter p sides) k ≡ Some t
        → (p t ≡ true) × ((j : ℕ) × (slice_get sides j ≡ Some t)))
        → slice_get (cond b (s ∷ filter p sides) (filter p sides)) i ≡ Some t
        → (p t ≡ true) × ((j : ℕ) × (slice_get (s ∷ sides) j ≡ Some t))
    go true e zero rest g = (ap p (sym (same_Some s t g)) ∙ e, (0, g))
    go true e (suc i) rest g = (let r = rest i g in (r.0, (suc (r.1).0, (r.1).1)))
    go false e i rest g = (let r = rest i g in (r.0, (suc (r.1).0, (r.1).1)))

lowest_goes : (links : List Link) (sides : List Side) (s : Setup) (link : ℕ) → lowest_link links sides s ≡ Some link
    → GoesFrom links s.from s.to link
lowest_goes links sides s link h = go (find (is_for sides s) (enumerate_from 0 links)) refl h
  where
    go : (o : Option (ℕ × Link)) → find (is_for sides s) (enumerate_from 0 links) ≡ o
        → option_map (λ (l : ℕ × Link). l.0) o ≡ Some link → GoesFrom links s.from s.to link
    go None e g = absurd (cc)
    go (Some l) e g =
        let found = first_for (is_for sides s) 0 links l e in
        let from = (l.1.from == s.from) in
        let to = (l.1.to == s.to) in
        let p = and_parts (from && to) (not (is_reserved sides l.0)) found.passes in
        let q = and_parts from to p.0 in
        let number : found.place ≡ link = (let a = found.number in let b = same_Some l.0 link g in omega (arith, a, b)) in (
          l.1,
          ap (slice_get links) (sym number) ∙ found.there,
          eqb-true l.1.from s.from q.0,
          eqb-true l.1.to s.to q.1,
        )

peer_goes : (links : List Link) (sides : List Side) (s : Setup) (p : Side) → GoWell links sides
    → peer_of sides s ≡ Some p
    → GoesFrom links s.from s.to p.link
peer_goes links sides s p well h =
    let f = filter_at (is_other_side s) sides _ p h in
    let t = p.setup in
    let three = (t.comm == s.comm) && (t.from == s.from) && (t.to == s.to) in
    let a = and_parts (same_transfer s t) (cond s.sending (not t.sending) t.sending) f.0 in
    let b = and_parts three (t.tag == s.tag) a.0 in
    let c = and_parts ((t.comm == s.comm) && (t.from == s.from)) (t.to == s.to) b.0 in
    let d = and_parts (t.comm == s.comm) (t.from == s.from) c.0 in
    let w = well (f.1).0 p (f.1).1 in
    (w.0, w.1, w.2 ∙ eqb-true t.from s.from d.1, w.3 ∙ eqb-true t.to s.to c.1)

same_link : (k link : ℕ) → reply.Link k ≡ reply.Link link → k ≡ link
same_link k link e = (cc)

init_goes : (h : HubView) (s : Setup) (link : ℕ) → GoWell h.links h.sides → (init_outcome h s).0 ≡ reply.Link link
    → GoesFrom h.links s.from s.to link
init_goes h s link well e = go (peer_of h.sides s) refl e
  where
    first : (o : Option ℕ) → lowest_link h.links h.sides s ≡ o → (init_first h s o).0 ≡ reply.Link link
        → GoesFrom h.links s.from s.to link
    first None f e = absurd (cc)
    first (Some k) f e =
        subst (λ n. GoesFrom h.links s.from s.to n) (same_link k link e) (lowest_goes h.links h.sides s k f)

    second : (p : Side) → peer_of h.sides s ≡ Some p → (b : Bool)
        → (let o : Reply × HubView = cond b (side_added h s p.link) (reply.Code Shape, h) in o.0 ≡ reply.Link link)
        → GoesFrom h.links s.from s.to link
    second p f true e =
        subst (λ n. GoesFrom h.links s.from s.to n) (same_link p.link link e) (peer_goes h.links h.sides s p well f)
    second p f false e = absurd (cc)

    go : (o : Option Side) → peer_of h.sides s ≡ o → (init_with h s o).0 ≡ reply.Link link
        → GoesFrom h.links s.from s.to link
    go None f e = first (lowest_link h.links h.sides s) refl e
    go (Some p) f e = second p f (same_total s p.setup) e

-- the side that a call began goes over a link of its own two ranks
begun_goes : (h : HubView) (rank : ℕ) (q : Request) (r : Reply) (n : Side) → GoWell h.links h.sides
    → (outcome h rank q).0 ≡ r → begun rank q r ≡ n ∷ [] → GoesFrom h.links n.setup.from n.setup.to n.link
begun_goes h rank (Init sends comm peer tag parts size) (reply.Link k) n well e b =
    let same : numbered (setup_of rank sends comm peer tag parts size) k ≡ n = (cc) in
    subst (λ (t : Side). GoesFrom h.links t.setup.from t.setup.to t.link) same
    (init_goes h (setup_of rank sends comm peer tag parts size) k well e)
begun_goes h rank q r n well e b = absurd (cc)

go_well : (links : List Link) (calls : List Call) → GoWell (hub_after links calls).links (hub_after links calls).sides
go_well links = call_by_call (λ calls. GoWell (hub_after links calls).links (hub_after links calls).sides)
    (λ i t e. absurd (cc)) more
  where
    step : (h : HubView) (rank : ℕ) (q : Request) (k : HubView) → Steps h rank q (outcome h rank q).0 k
        → GoWell h.links h.sides → GoWell k.links k.sides
    step h rank q k (is_none b e l) well i t at =
        subst (λ ls. GoesFrom ls t.setup.from t.setup.to t.link) (sym l)
        (well i t (ap (λ ts. slice_get ts i) (sym e) ∙ at))
    step h rank q k (is_one n b e l join) well i t at =
        subst (λ ls. GoesFrom ls t.setup.from t.setup.to t.link) (sym l)
        (elim (get_snoc h.sides n i t (ap (λ ts. slice_get ts i) (sym e) ∙ at)) [
          | inl new ↦ subst (λ (u : Side). GoesFrom h.links u.setup.from u.setup.to u.link) (sym new.1)
              (begun_goes h rank q (outcome h rank q).0 n well refl b)
          | inr old ↦ well i t old
        ])

    more : (calls : List Call) (c : Call) → GoWell (hub_after links calls).links (hub_after links calls).sides
        → GoWell (hub_after links (calls ++ c ∷ [])).links (hub_after links (calls ++ c ∷ [])).sides
    more calls c well =
        subst (λ (k : HubView). GoWell k.links k.sides) (sym (hub_more links calls c))
        (step (hub_after links calls) c.0 c.1 _ (steps (hub_after links calls) c.0 c.1) well)

-- ---- a link has one side of each direction

has_at : (sides : List Side) (i : ℕ) (t : Side) → slice_get sides i ≡ Some t → Has sides t
has_at [] i t h = absurd (cc)
has_at (s ∷ sides) zero t h =
    record { before = []; behind = sides; is = ap (λ (u : Side). u ∷ sides) (same_Some s t h) }
has_at (s ∷ sides) (suc i) t h =
    (let r = has_at sides i t h in record { before = s ∷ r.before; behind = r.behind; is = ap (λ ts. s ∷ ts) r.is })

own_direction : (t : Side) → is_of (transfer_of t) t.setup.sending t ≡ true
own_direction t =
    let s = t.setup in
    let comm : (s.comm == s.comm) ≡ true = eq-eqb s.comm s.comm refl in
    let from : (s.from == s.from) ≡ true = eq-eqb s.from s.from refl in
    let to : (s.to == s.to) ≡ true = eq-eqb s.to s.to refl in
    let tag : (s.tag == s.tag) ≡ true = eq-eqb s.tag s.tag refl in
    (λ i. comm i && from i && to i && tag i && same s.sending i)
  where
    same : (b : Bool) → cond b b (not b) ≡ true
    same true = refl
    same false = refl

abbrev Apart : List Side → Type 0
Apart sides = (i j : ℕ) (s t : Side) → slice_get sides i ≡ Some s → slice_get sides j ≡ Some t → s.link ≡ t.link
    → s.setup.sending ≡ t.setup.sending → i ≡ j

-- a new side shares its link with none of its own direction
new_apart : (sides : List Side) (n : Side) → Joins sides n → Paired sides → (j : ℕ) (t : Side)
    → slice_get sides j ≡ Some t → n.link ≡ t.link → n.setup.sending ≡ t.setup.sending → ⊥
new_apart sides n join paired j t at link direction =
    let place = has_place sides t (has_at sides j t at) (transfer_of t) t.setup.sending (own_direction t) in
    let own = own_new sides n join paired (transfer_of n) (transfer_of t) n.setup.sending t.setup.sending place.0 t
    (own_direction n) place.1 link in
    let lt = get_within (sides_of sides (transfer_of t) t.setup.sending) place.0 t place.1 in
    let long : length (sides_of sides (transfer_of n) n.setup.sending)
    ≡ length (sides_of sides (transfer_of t) t.setup.sending) =
    (λ i. length (sides_of sides (own.0 i) (direction i))) in
    let end = own.1 in
    absurd (omega (arith, lt, long, end))

apart_more : (sides : List Side) (n : Side) → Joins sides n → Paired sides → Apart sides → Apart (sides ++ n ∷ [])
apart_more sides n join paired apart i j s t at_i at_j link direction =
    elim (get_snoc sides n i s at_i) [
      | inl x ↦ elim (get_snoc sides n j t at_j) [
        | inl y ↦ x.0 ∙ sym y.0
        | inr y ↦ absurd (new_apart sides n join paired j t y (ap (λ (u : Side). u.link) (sym x.1) ∙ link)
            (ap (λ (u : Side). u.setup.sending) (sym x.1) ∙ direction))
      ]
      | inr x ↦ elim (get_snoc sides n j t at_j) [
        | inl y ↦ absurd (new_apart sides n join paired i s x (ap (λ (u : Side). u.link) (sym y.1) ∙ sym link)
            (ap (λ (u : Side). u.setup.sending) (sym y.1) ∙ sym direction))
        | inr y ↦ apart i j s t x y link direction
      ]
    ]

sides_apart : (links : List Link) (calls : List Call) → Apart (hub_after links calls).sides
sides_apart links = call_by_call (λ calls. Apart (hub_after links calls).sides) (λ i j s t e. absurd (cc)) more
  where
    step : (h : HubView) (rank : ℕ) (q : Request) (r : Reply) (k : HubView) → Steps h rank q r k → Paired h.sides
        → Apart h.sides → Apart k.sides
    step h rank q r k (is_none b e l) paired apart = subst (λ ts. Apart ts) (sym e) apart
    step h rank q r k (is_one n b e l join) paired apart =
        subst (λ ts. Apart ts) (sym e) (apart_more h.sides n join paired apart)

    more : (calls : List Call) (c : Call) → Apart (hub_after links calls).sides
        → Apart (hub_after links (calls ++ c ∷ [])).sides
    more calls c apart =
        subst (λ (k : HubView). Apart k.sides) (sym (hub_more links calls c))
        (step (hub_after links calls) c.0 c.1 _ _ (steps (hub_after links calls) c.0 c.1)
        (subst (λ ts. Paired ts) (sym (sides_are links calls)) (paired links calls)) apart)

one_transfer : (sides : List Side) → Paired sides → (i j : ℕ) (s t : Side) → slice_get sides i ≡ Some s
    → slice_get sides j ≡ Some t → s.link ≡ t.link
    → IsOneTransfer s.setup t.setup
one_transfer sides paired i j s t at_i at_j link =
    let x = has_place sides s (has_at sides i s at_i) (transfer_of s) s.setup.sending (own_direction s) in
    let y = has_place sides t (has_at sides j t at_j) (transfer_of t) t.setup.sending (own_direction t) in
    let own = paired.own (transfer_of s) (transfer_of t) s.setup.sending t.setup.sending x.0 y.0 s t x.1 y.1 link in
    let same = own.0 in
    record {
      comm = (λ k. (same k).comm);
      from = (λ k. (same k).from);
      to = (λ k. (same k).to);
      tag = (λ k. (same k).tag);
    }

-- ---- a refusal for want of a link

reserved_at : (sides : List Side) (link : ℕ) → is_reserved sides link ≡ true
    → (i : ℕ) × (t : Side) × (slice_get sides i ≡ Some t) × (t.link ≡ link)
reserved_at [] link h = absurd (cc)
reserved_at (s ∷ sides) link h = go (s.link == link) refl (λ g. reserved_at sides link g) h
  where
    go : (b : Bool) → (s.link == link) ≡ b
        → (is_reserved sides link ≡ true
        → (i : ℕ) × (t : Side) × (slice_get sides i ≡ Some t) × (t.link ≡ link))
        → (b || is_reserved sides link) ≡ true
        → (i : ℕ) × (t : Side) × (slice_get (s ∷ sides) i ≡ Some t) × (t.link ≡ link)
    go true e rest g = (0, s, refl, eqb-true s.link link e)
    go false e rest g = (let r = rest g in (suc r.0, r.1, r.2, r.3))

not_free : (b : Bool) → not b ≡ false → b ≡ true
not_free true e = refl
not_free false e = absurd (cc)

init_refused : (h : HubView) (s : Setup) (link : ℕ) → (init_outcome h s).0 ≡ reply.Code NoChannel
    → GoesFrom h.links s.from s.to link → is_reserved h.sides link ≡ true
init_refused h s link e goes = go (peer_of h.sides s) e
  where
    free : is_for h.sides s (0 + link, goes.0) ≡ false → is_reserved h.sides link ≡ true
    free f =
        let from : ((goes.0).from == s.from) ≡ true = eq-eqb (goes.0).from s.from goes.2 in
        let to : ((goes.0).to == s.to) ≡ true = eq-eqb (goes.0).to s.to goes.3 in
        let number : 0 + link ≡ link = omega arith in
        not_free (is_reserved h.sides link)
        (sym (λ i. from i && to i && not (is_reserved h.sides (number i))) ∙ f)

    none : (o : Option (ℕ × Link)) → find (is_for h.sides s) (enumerate_from 0 h.links) ≡ o
        → (init_first h s (option_map (λ (l : ℕ × Link). l.0) o)).0 ≡ reply.Code NoChannel
        → is_reserved h.sides link ≡ true
    none None f e = free (not_found (is_for h.sides s) 0 h.links link goes.0 f goes.1)
    none (Some l) f e = absurd (cc)

    go : (o : Option Side) → (init_with h s o).0 ≡ reply.Code NoChannel → is_reserved h.sides link ≡ true
    go None e = none (find (is_for h.sides s) (enumerate_from 0 h.links)) refl e
    go (Some p) e = absurd (shape (same_total s p.setup) e)
      where
        shape : (b : Bool)
            → (let o : Reply × HubView = cond b (side_added h s p.link) (reply.Code Shape, h) in
            o.0 ≡ reply.Code NoChannel) → ⊥
        shape true e = cc
        shape false e = cc

-- ---- the law

module _ (links : List Link) (calls : List Call) where
  links_are : (hub_after links calls).links ≡ links
  links_are = links_on calls (hub_at_start links)

  goes : (s : Setup) (link : ℕ) → (init_outcome (hub_after links calls) s).0 ≡ reply.Link link
      → GoesFrom links s.from s.to link
  goes s link e =
      subst (λ ls. GoesFrom ls s.from s.to link) links_are
      (init_goes (hub_after links calls) s link (go_well links calls) e)

  taken : (s : Setup) (link : ℕ) → (init_outcome (hub_after links calls) s).0 ≡ reply.Code NoChannel
      → GoesFrom links s.from s.to link → IsTaken links calls link
  taken s link e there =
      subst (λ ts. (i : ℕ) × (t : Side) × (slice_get ts i ≡ Some t) × (t.link ≡ link)) (sides_are links calls)
      (reserved_at (hub_after links calls).sides link
      (init_refused (hub_after links calls) s link e
      (subst (λ ls. GoesFrom ls s.from s.to link) (sym links_are) there)))

pub links_law : LinksLaw
links_law = record {
  sending = λ links calls rank comm peer tag parts size link.
      goes links calls (setup_of rank true comm peer tag parts size) link;
  receiving = λ links calls rank comm peer tag parts size link.
      goes links calls (setup_of rank false comm peer tag parts size) link;
  one_each = λ links calls. subst (λ ts. Apart ts) (sides_are links calls) (sides_apart links calls);
  one_transfer = λ links calls. one_transfer (begun_after links calls) (paired links calls);
  no_sending = λ links calls rank comm peer tag parts size link.
      taken links calls (setup_of rank true comm peer tag parts size) link;
  no_receiving = λ links calls rank comm peer tag parts size link.
      taken links calls (setup_of rank false comm peer tag parts size) link;
}
