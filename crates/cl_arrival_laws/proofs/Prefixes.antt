-- What was taken from a box is a beginning of what was made ready there.
use Rattle.std.specs.Prelude.{ℕ, suc, ◌*◌, ◌+◌, ◌/◌, ◌<◌, List, [], ◌∷◌, ◌++◌, ◌≡◌, map}
use Rattle.std.specs.List.{slice_get}
use Rattle.std.specs.declared.option.Option.{Option}
use Rattle.std.specs.declared.option.Option.TheVariants.{None, Some}
use Rattle.std.proofs.Common.{refl, sym, ap, ◌∙◌, subst, arith}
use Rattle.std.proofs.lemmas.Option.{same_Some}
use Rattle.rv_image_types.specs.declared.images.Link.{Link}
use Rattle.cl_deeds.specs.Deeds.{Deed}
use Rattle.cl_machine.specs.Boxes.{Box, Thing, box_number}
use Rattle.cl_machine.specs.Joined.{BoxJoined, BoxJoinedAt, Got, link_of_box, thing_of}
use Rattle.cl_stamp_laws.proofs.Joinings.{joined}
use Rattle.cl_arrival_laws.specs.Laws.{BeginsWith, PrefixLaw, made_at, taken_at}

-- a list that has each of these at its place begins with them
begins : (got : List Got) (made : List Thing)
    → ((k : ℕ) (g : Got) → slice_get got k ≡ Some g → slice_get made k ≡ Some (thing_of g))
    → BeginsWith made (map thing_of got)
begins [] made front = (made, refl)
begins (g ∷ got) [] front = absurd (let e = front 0 g refl in (cc))
begins (g ∷ got) (m ∷ made) front =
    let rest = begins got made (λ k x e. front (suc k) x e) in
    let one : m ≡ thing_of g = same_Some _ _ (front 0 g refl) in
    (rest.0, λ i. one i ∷ rest.1 i)

-- of a box's link
module _ (links : List Link) (b : ℕ) (deeds : ℕ → List Deed) (l : Link) (is : link_of_box links b ≡ Some l) where
  of_box : (new : Box) → BoxJoined links b deeds new → BeginsWith (made_at b (deeds l.from)) (taken_at b (deeds l.to))
  of_box new h =
      let same : h.link ≡ l = same_Some _ _ (sym h.link_is ∙ is) in
      subst (λ (x : Link). BeginsWith (made_at b (deeds x.from)) (taken_at b (deeds x.to))) same
      (let rest = begins h.got h.made h.front in
      (rest.0, h.made_is ∙ (rest.1 ∙ ap (λ xs. map thing_of xs ++ rest.0) (sym h.got_is))))

  of_boxes : (o p : Option Box) → BoxJoinedAt links b deeds o p
      → BeginsWith (made_at b (deeds l.from)) (taken_at b (deeds l.to))
  of_boxes (Some old) (Some new) h = of_box new h.1
  of_boxes None None h = absurd (let none : link_of_box links b ≡ None = h in (cc))
  of_boxes None (Some new) h = absurd h
  of_boxes (Some old) None h = absurd h

on_link : (links : List Link) (link part : ℕ) (l : Link) → slice_get links link ≡ Some l → part < 16
    → link_of_box links (box_number link part) ≡ Some l
on_link links link part l is low =
    let same : (16 * link + part) / 16 ≡ link = omega (arith, low) in ap (slice_get links) same ∙ is

pub prefix : PrefixLaw
prefix image steps final is run =
    let j = joined image steps final is run in (
      j.0,
      λ r. (j.3 r, j.2.ranks r),
      λ link part l there low.
          of_boxes image.links (box_number link part) j.0 l (on_link image.links link part l there low)
          _ _ (j.2.boxes (box_number link part)),
    )
