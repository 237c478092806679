-- The two seats of a link.
use Rattle.std.specs.Prelude.{ℕ, ◌≡◌, ◌<◌, ◌+◌, List, [], ◌∷◌, ◌++◌, length, map, get_or, slice_get, Some}
use Rattle.std.proofs.Common.{zero, suc, refl, sym, ap, ◌∙◌, subst, arith}
use Rattle.std.proofs.lemmas.List.{length-append, length-map}
use Rattle.std.proofs.lemmas.Option.{same_Some, slice_get-get_or}
use Rattle.rv_image_types.specs.declared.images.Link.{Link}
use Rattle.part_box.specs.declared.view.Receiving.{Receiving}
use Rattle.part_box.specs.declared.view.Sending.{Sending}
use Rattle.part_channel.specs.Channels.{ChannelView}
use Rattle.cl_sides.specs.declared.steps.BoxId.{BoxId}
use Rattle.cl_rank.specs.RankSides.{AreChannelsOf, receiver_of, sender_of}
use Rattle.cl_rank.specs.Views.{place_in}
use Rattle.cl_run.specs.declared.driver.Driver.{Driver}
use Rattle.cl_record.proofs.Elements.{at_below, to_map}
use Rattle.cl_record.specs.Seats.{Station, station}
use Rattle.cl_run.specs.Driver.{Agree, AreJoined, HaveKeys, KeysAgree, stations}
use Rattle.cl_record.specs.BoxKeys.{AgreeOn}
use Rattle.cl_record.specs.declared.seats.Seat.{Seat}
use Rattle.cl_record.proofs.Elements.{link_at}
use Rattle.cl_run.proofs.Seats.{station_at}

get-front : {X : Type 0} (xs ys : List X) (i : ℕ) (x : X) → slice_get xs i ≡ Some x → slice_get (xs ++ ys) i ≡ Some x
get-front [] ys i x e = absurd (cc)
get-front (z ∷ xs) ys zero x e = e
get-front (z ∷ xs) ys (suc i) x e = get-front xs ys i x e

get-back : {X : Type 0} (xs ys : List X) → slice_get (xs ++ ys) (length xs) ≡ slice_get ys 0
get-back [] ys = refl
get-back (z ∷ xs) ys = get-back xs ys

-- where the seats are split
module _ {T : Type 0} (seats low high : List T) (mid : ℕ) (whole : seats ≡ low ++ high) (front : length low ≡ mid) where
  pub low_at : (i : ℕ) (d : T) → i < mid → slice_get seats i ≡ Some (get_or low i d)
  low_at i d below =
      ap (λ xs. slice_get xs i) whole
      ∙ get-front low high i (get_or low i d) (slice_get-get_or low i d (omega (arith, front, below)))

  pub high_at : (d : T) → mid < length seats → slice_get seats mid ≡ Some (get_or high 0 d)
  high_at d below =
      let count : length seats ≡ length low + length high = ap length whole ∙ length-append low high in
      ap (λ xs. slice_get xs mid) whole
      ∙ ap (slice_get (low ++ high)) (sym front)
      ∙ get-back low high
      ∙ slice_get-get_or high 0 d (omega (arith, front, below, count))

-- what holds of two stations holds of the two seats, and the other way round
module _ {T : Type 0} (seen : T → Station) (seats : List T) (l : Link) (link part : ℕ) (x y : T)
    (from_at : slice_get seats l.from ≡ Some x) (to_at : slice_get seats l.to ≡ Some y) where
  pub record HaveBoth (channels : List ChannelView) : Type 0 where
    pub sender_over : AreChannelsOf (seen x).rank.site.version channels (seen x).sides
    pub receiver_over : AreChannelsOf (seen y).rank.site.version channels (seen y).sides
    pub sends : (s : Sending) × (sender_of (seen x).sides link part ≡ Some s)
    pub receives : (r : Receiving) × (receiver_of (seen y).sides link part ≡ Some r)

  pub have_both : (channels : List ChannelView) → HaveKeys (map seen seats) channels l link part
      → HaveBoth channels
  have_both channels h =
      let from_is : h.0 ≡ seen x = same_Some h.0 (seen x) (sym h.2 ∙ to_map seen seats l.from x from_at) in
      let to_is : h.1 ≡ seen y = same_Some h.1 (seen y) (sym h.3 ∙ to_map seen seats l.to y to_at) in
      record {
        sender_over = subst (λ (z : Station). AreChannelsOf z.rank.site.version channels z.sides) from_is h.4;
        receiver_over = subst (λ (z : Station). AreChannelsOf z.rank.site.version channels z.sides) to_is h.5;
        sends = subst (λ (z : Station). (s : Sending) × (sender_of z.sides link part ≡ Some s)) from_is h.6;
        receives = subst (λ (z : Station). (r : Receiving) × (receiver_of z.sides link part ≡ Some r)) to_is h.7;
      }

  pub both_agree : ((s : Sending) (r : Receiving) → sender_of (seen x).sides link part ≡ Some s
      → receiver_of (seen y).sides link part ≡ Some r → AgreeOn (seen x).rank.site.version s r)
      → KeysAgree (map seen seats) l link part
  both_agree agree from to s r at_from at_to sends receives =
      let from_is : from ≡ seen x = same_Some from (seen x) (sym at_from ∙ to_map seen seats l.from x from_at) in
      let to_is : to ≡ seen y = same_Some to (seen y) (sym at_to ∙ to_map seen seats l.to y to_at) in
      subst (λ (z : Station). AgreeOn z.rank.site.version s r) (sym from_is)
      (agree s r (ap (λ (z : Station). sender_of z.sides link part) (sym from_is) ∙ sends)
      (ap (λ (z : Station). receiver_of z.sides link part) (sym to_is) ∙ receives))

module _ (driver : Driver) (joined : AreJoined driver) where
  -- what a rank asked last is a box of a link
  pub asked_there : (rank : ℕ) (seat : Seat) (place : BoxId) → slice_get driver.seats.items rank ≡ Some seat
      → seat.rank.asked_box ≡ Some place → (place.link < length driver.hub.links) × (place.part < 16)
  asked_there rank seat place at e =
      (joined.each rank (station seat) (station_at driver.seats.items rank seat at)).asked (place.link, place.part)
      (ap place_in e)

  -- the two seats of a link have the keys of its boxes
  pub have_keys : (link part : ℕ) (l : Link) → slice_get driver.hub.links link ≡ Some l → part < 16
      → HaveKeys (stations driver) driver.channels.items l link part
  have_keys link part l at low =
      let own = link_at (length driver.seats.items) driver.hub.links link l joined.links at in
      let count = length-map driver.seats.items station in
      let from = at_below (stations driver) l.from (omega (arith, own.from_there, count)) in
      let to = at_below (stations driver) l.to (omega (arith, own.to_there, count)) in
      let sender = joined.each l.from from.0 from.1 in
      let receiver = joined.each l.to to.0 to.1 in (
        from.0,
        to.0,
        from.1,
        to.1,
        sender.over,
        receiver.over,
        sender.keys.sends link part l at low refl,
        receiver.keys.receives link part l at low refl,
      )

  -- the keys agree of the box that a rank asked last
  pub agree_asked : (rank : ℕ) (seat : Seat) (place : BoxId) (l : Link)
      → slice_get driver.seats.items rank ≡ Some seat
      → seat.rank.asked_box ≡ Some place → slice_get driver.hub.links place.link ≡ Some l
      → KeysAgree (stations driver) l place.link place.part
      → (s : Station) → slice_get (stations driver) rank ≡ Some s → Agree driver.hub.links (stations driver) s.asked
  agree_asked rank seat place l at e here agree s at_s =
      let s_is : station seat ≡ s =
      same_Some (station seat) s (sym (station_at driver.seats.items rank seat at) ∙ at_s) in
      let asked : Some (place.link, place.part) ≡ s.asked =
      ap place_in (sym e) ∙ ap (λ (x : Station). x.asked) s_is in
      subst (Agree driver.hub.links (stations driver)) asked
      (λ l' there. subst (λ (x : Link). KeysAgree (stations driver) x place.link place.part)
      (same_Some l l' (sym here ∙ there)) agree)
