-- Sides that were initialised: what holds of each that is there holds of all.
use Rattle.std.proofs.Common.{◌≡◌, ℕ, ◌⊎◌, inl, inr, Bool, true, false, cond, not, List, get_or, Some, None, refl, sym, ap, ◌∙◌, subst}
use Rattle.std.specs.Prelude.{All, filter, ◌==◌, ◌&&◌}
use Rattle.std.specs.List.{slice_get}
use Rattle.std.proofs.lemmas.Bool.{and_parts, eqb-true}
use Rattle.std.proofs.lemmas.Option.{get_or_from_slice_get, slice_get_within}
use Rattle.mp_transfers.specs.declared.sides.Setup.{Setup}
use Rattle.mp_transfers.specs.declared.sides.Side.{Side}
use Rattle.mp_transfers.specs.Inits.{is_reserved, is_same_side, is_sender_over, same_transfer, sender_over}
use Rattle.mp_alike.specs.InnerAlike.{AreAlikeSides, IsAlikeSide}
use Rattle.mp_alike.proofs.Places.{NonePasses, none_any, none_filtered, none_found, some_or_none}

at : (P : Side → Type 0) (xs : List Side) → All P xs → (i : ℕ) (t : Side) → slice_get xs i ≡ Some t → P t
at P xs all i t here = subst P (get_or_from_slice_get xs i t t here) (all i t (slice_get_within xs i t here))

same_sending : (x y : Bool) → cond x y (not y) ≡ true → x ≡ y
same_sending true true h = refl
same_sending true false h = absurd (cc)
same_sending false true h = absurd (cc)
same_sending false false h = refl

-- on the same side of the same transfer as one are the same as on that one's
same_class : (s : Setup) (t : Side) → is_same_side s t ≡ true → is_same_side t.setup ≡ is_same_side s
same_class s t h =
    let u = t.setup in
    let p = and_parts (same_transfer s u) (cond s.sending u.sending (not u.sending)) h in
    let q = and_parts ((u.comm == s.comm) && (u.from == s.from) && (u.to == s.to)) (u.tag == s.tag) p.0 in
    let r = and_parts ((u.comm == s.comm) && (u.from == s.from)) (u.to == s.to) q.0 in
    let v = and_parts (u.comm == s.comm) (u.from == s.from) r.0 in
    let sending : u.sending ≡ s.sending = sym (same_sending s.sending u.sending p.1) in
    let comm : u.comm ≡ s.comm = eqb-true u.comm s.comm v.0 in
    let from : u.from ≡ s.from = eqb-true u.from s.from v.1 in
    let to : u.to ≡ s.to = eqb-true u.to s.to r.1 in
    let tag : u.tag ≡ s.tag = eqb-true u.tag s.tag q.1 in
    λ k. is_same_side (record {
      sending = sending k;
      comm = comm k;
      from = from k;
      to = to k;
      tag = tag k;
      parts = s.parts;
      size = s.size;
    })

module _ (mine theirs : List Side) (all : All (IsAlikeSide mine theirs) mine) (more : All (IsAlikeSide mine theirs) theirs) where
  -- a side that passes stands in one of the lists, or none does
  of_either : (f : Side → Bool) → ((t : Side) × IsAlikeSide mine theirs t × (f t ≡ true))
      ⊎ (NonePasses f mine × NonePasses f theirs)
  of_either f = elim (some_or_none f mine) [
    | inl p ↦ inl (p.item, at (IsAlikeSide mine theirs) mine all p.place p.item p.here, p.passes)
    | inr none ↦ elim (some_or_none f theirs) [
      | inl p ↦ inl (p.item, at (IsAlikeSide mine theirs) theirs more p.place p.item p.here, p.passes)
      | inr also ↦ inr (none, also)
    ]
  ]

  sides : (s : Setup) → filter (is_same_side s) theirs ≡ filter (is_same_side s) mine
  sides s = elim (of_either (is_same_side s)) [
    | inl p ↦
        subst (λ (f : Side → Bool). filter f theirs ≡ filter f mine) (same_class s p.0 p.2) (p.1).sides
    | inr none ↦
        none_filtered (is_same_side s) theirs none.1 ∙ sym (none_filtered (is_same_side s) mine none.0)
  ]

  reserved : (link : ℕ) → is_reserved theirs link ≡ is_reserved mine link
  reserved link = elim (of_either (λ (t : Side). t.link == link)) [
    | inl p ↦
        subst (λ l. is_reserved theirs l ≡ is_reserved mine l) (eqb-true (p.0).link link p.2) (p.1).reserved
    | inr none ↦
        none_any (λ (t : Side). t.link == link) theirs none.1
        ∙ sym (none_any (λ (t : Side). t.link == link) mine none.0)
  ]

  -- no side of the link sends, if there is none
  none_sends : (link : ℕ) (xs : List Side) → NonePasses (λ (t : Side). t.link == link) xs → sender_over xs link ≡ None
  none_sends link xs none =
      none_found (is_sender_over link) xs (λ i t here. ap (λ x. x && (t.setup).sending) (none i t here))

  senders : (link : ℕ) → sender_over theirs link ≡ sender_over mine link
  senders link = elim (of_either (λ (t : Side). t.link == link)) [
    | inl p ↦
        subst (λ l. sender_over theirs l ≡ sender_over mine l) (eqb-true (p.0).link link p.2) (p.1).sender
    | inr none ↦ none_sends link theirs none.1 ∙ sym (none_sends link mine none.0)
  ]

pub all_alike : (mine theirs : List Side) → All (IsAlikeSide mine theirs) mine → All (IsAlikeSide mine theirs) theirs
    → AreAlikeSides mine theirs
all_alike mine theirs all more = record {
  sides = sides mine theirs all more;
  reserved = reserved mine theirs all more;
  senders = senders mine theirs all more;
}

pub each_alike : (mine theirs : List Side) → AreAlikeSides mine theirs → (xs : List Side)
    → All (IsAlikeSide mine theirs) xs
each_alike mine theirs h xs k t below = record {
  sides = h.sides (get_or xs k t).setup;
  reserved = h.reserved (get_or xs k t).link;
  sender = h.senders (get_or xs k t).link;
}
