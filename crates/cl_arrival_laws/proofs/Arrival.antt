-- What is reported arrived in a receiver's phase is what was made ready in the sender's phase of the same number.
use Rattle.std.specs.Prelude.{ℕ, zero, suc, ◌+◌, ◌<◌, List, [], ◌∷◌, ◌++◌, ◌≡◌, ◌⊎◌, length, map}
use Rattle.std.specs.List.{filter_map, slice_get}
use Rattle.std.specs.declared.option.Option.{Option}
use Rattle.std.specs.declared.option.Option.TheVariants.{None, Some}
use Rattle.std.proofs.Common.{sym, ap, ◌∙◌, subst, arith, append_assoc}
use Rattle.std.proofs.lemmas.List.{map-append}
use Rattle.std.proofs.lemmas.List.Elements.{filter-append, filter_map-append}
use Rattle.std.proofs.lemmas.Option.{same_Some, slice_get_cases}
use mathlib.Core.Logic.{inl, inr}
use Rattle.rv_image_types.specs.declared.images.ImageParts.{ImageParts}
use Rattle.cl_state.specs.Rank.{Rank, loaded}
use Rattle.cl_deeds.specs.Deeds.{Deed, RankMoves}
use Rattle.cl_deeds.specs.Alone.{IsAlone}
use Rattle.cl_machine.specs.Boxes.{Thing, box_number}
use Rattle.cl_machine.specs.Cluster.{loaded_cluster}
use Rattle.cl_machine.specs.Joined.{got_of, thing_of}
use Rattle.cl_machine.specs.Parts.{PartRunAt, is_index, own}
use Rattle.cl_machine.specs.Product.{box_at}
use Rattle.cl_stamp_laws.proofs.Ranks.{starts}
use Rattle.cl_arrival_laws.specs.Arrival.{IsMadeIn}
use Rattle.cl_arrival_laws.specs.Laws.{ArrivalLaw, made_at, taken_at}
use Rattle.cl_arrival_laws.proofs.Arrived.{arrived}
use Rattle.cl_arrival_laws.proofs.Counting.{one_more_deed}
use Rattle.cl_arrival_laws.proofs.Found.{made_in, taken_in}
use Rattle.cl_arrival_laws.proofs.Prefixes.{prefix}
use Rattle.cl_arrival_laws.proofs.Takes.{counts}

get_front : {X : Type 0} (xs ys : List X) (k : ℕ) (x : X) → slice_get xs k ≡ Some x → slice_get (xs ++ ys) k ≡ Some x
get_front [] ys k x e = absurd (cc)
get_front (z ∷ xs) ys zero x e = e
get_front (z ∷ xs) ys (suc k) x e = get_front xs ys k x e

taken_append : (b : ℕ) (xs ys : List Deed) → taken_at b (xs ++ ys) ≡ taken_at b xs ++ taken_at b ys
taken_append b xs ys =
    ap (λ zs. map thing_of (filter_map got_of zs)) (filter-append (λ (d : Deed). is_index b (box_at d)) xs ys)
    ∙ (ap (map thing_of) (filter_map-append got_of (own box_at b xs) (own box_at b ys))
    ∙ map-append thing_of (filter_map got_of (own box_at b xs)) (filter_map got_of (own box_at b ys)))

-- a rank that did something is there, and was loaded
made_by : (image : ImageParts) (r : ℕ) (ds : List Deed) (o p : Option Rank) → PartRunAt RankMoves o ds p
    → (o ≡ Some (loaded image r)) ⊎ (o ≡ None) → (link box k : ℕ) → box < 16 → (thing : Thing)
    → slice_get (made_at (box_number link box) ds) k ≡ Some thing
    → IsMadeIn k (loaded image r) ds link box thing
made_by image r ds (Some old) (Some new) run (inl same) link box k low thing e =
    made_in image r ds new (subst (λ (x : Rank). IsAlone x ds new) (same_Some _ _ same) run) link box k low thing e
made_by image r ds (Some old) (Some new) run (inr none) link box k low thing e = absurd (cc)
made_by image r ds None None run start link box k low thing e =
    absurd (let none = subst (λ xs. slice_get (made_at (box_number link box) xs) k ≡ Some thing) run e in (cc))
made_by image r ds (Some old) None run start link box k low thing e = absurd run
made_by image r ds None (Some new) run start link box k low thing e = absurd run

-- the k-th thing is there where more than k were taken
kth : (things : List Thing) (k : ℕ) → length things ≡ k + 1 → (thing : Thing) × (slice_get things k ≡ Some thing)
kth things k all =
    elim (slice_get_cases things k).1
    [ inl c ↦ (c.0, c.2) | inr c ↦ absurd (let up = c.0 in omega (arith, up, all)) ]

starts_so : (image : ImageParts) (r : ℕ)
    → (slice_get (loaded_cluster image).ranks r ≡ Some (loaded image r))
    ⊎ (slice_get (loaded_cluster image).ranks r ≡ None)
starts_so image r = elim (starts image image.ranks r) [ inl h ↦ inl h.1 | inr h ↦ inr h.1 ]

pub arrival : ArrivalLaw
arrival image steps final is run =
    let pre = prefix image steps final is run in (
      pre.0,
      pre.1,
      λ link part k l ds later old new d there all alone moves reports begun byte within.
          let then_run = one_more_deed ds (loaded image l.to) old new d alone moves in
          let times = arrived image l.to ds old new d link part k alone moves reports begun byte within in
          let most = (counts image l.to link 0 (omega arith) (ds ++ d ∷ []) new then_run).few in
          let below = times.2 in
          let low : times.0 < 16 = omega (arith, below, most) in
          let b = box_number link times.0 in
          let one = kth (taken_at b (ds ++ d ∷ [])) k times.3 in
          let begins = pre.2 link times.0 l there low in
          let whole : pre.0 l.to ≡ (ds ++ d ∷ []) ++ later = all ∙ sym (append_assoc ds (d ∷ []) later) in
          let in_all : slice_get (taken_at b (pre.0 l.to)) k ≡ Some one.0 =
          ap (λ xs. slice_get (taken_at b xs) k) whole
          ∙ (ap (λ xs. slice_get xs k) (taken_append b (ds ++ d ∷ []) later)
          ∙ get_front (taken_at b (ds ++ d ∷ [])) (taken_at b later) k one.0 one.1) in
          let made : slice_get (made_at b (pre.0 l.from)) k ≡ Some one.0 =
          ap (λ xs. slice_get xs k) begins.1 ∙ get_front (taken_at b (pre.0 l.to)) begins.0 k one.0 in_all in (
            times.0,
            one.0,
            times.1,
            made_by image l.from (pre.0 l.from) _ _ (pre.1 l.from).1 (starts_so image l.from) link times.0 k low one.0
                made,
            taken_in image l.to (ds ++ d ∷ []) new then_run link times.0 k low one.0 one.1,
          ),
    )
