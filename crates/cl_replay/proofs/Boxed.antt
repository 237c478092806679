-- The boxes of a state, and the cluster's that they show.
use Rattle.std.specs.Prelude.{ℕ, zero, suc, ◌+◌, ◌*◌, ◌/◌, ◌%◌, ◌<◌, ◌≤◌, ◌≡◌, List, [], ◌∷◌, ◌++◌, length, replicate}
use Rattle.std.specs.Prelude.{slice_get, slice_set, Option, Some, None, Bool, true, false}
use Rattle.std.proofs.Common.{refl, sym, ap, ◌∙◌, subst, arith, inl, inr}
use Rattle.std.proofs.lemmas.Bool.Decides.{eqb_tells}
use Rattle.std.proofs.lemmas.List.{length-replicate, length-set}
use Rattle.std.proofs.lemmas.Option.{same_Some, slice_get_within}
use Rattle.rv_image_types.specs.declared.images.ImageParts.{ImageParts}
use Rattle.rv_image_types.specs.declared.images.ImageVersion.{ImageVersion}
use Rattle.part_box.specs.declared.settled.Settled.{Settled}
use Rattle.cl_machine.specs.Keys.{Shows, ShowsAll, bytes_in}
use Rattle.cl_machine.specs.Boxes.{Box, Holds, IsEmpty, Thing, box_number, empty_box, with_made, with_taken}
use Rattle.cl_machine.proofs.Lists.{get-set_other, get-set_same}
use Rattle.cl_replay.specs.Boxes.{ChangesBox, at_part, filled, settled_at, vacant}

-- ---- one box

past : {X : Type 0} (xs : List X) (k : ℕ) (x : X) → k ≡ length xs → slice_get (xs ++ x ∷ []) k ≡ Some x
past [] k x e = subst (λ n. slice_get (x ∷ []) n ≡ Some x) (sym e) refl
past (y ∷ xs) zero x e = absurd (omega (arith, e))
past (y ∷ xs) (suc k) x e = past xs k x (omega (arith, e))

module _ (version : ImageVersion) (s : Settled) (box : Box) (shows : Shows version s box) where
  -- an empty box isn't full
  pub empty_is : IsEmpty box → s.full ≡ false
  empty_is empty = by_full s.full refl
    where
      by_full : (b : Bool) → s.full ≡ b → b ≡ false
      by_full false e = refl
      by_full true e =
          let inside = slice_get_within box.made box.taken _ (shows.full e) in absurd (omega (arith, inside, empty))

  -- what stands in a box is what the words spell
  pub held_is : (bytes : List ℕ) → Holds box bytes → (s.full ≡ true) × (bytes ≡ bytes_in version s.words)
  held_is bytes holds = by_full s.full refl
    where
      by_full : (b : Bool) → s.full ≡ b → (s.full ≡ true) × (bytes ≡ bytes_in version s.words)
      by_full true e =
          let one = same_Some _ _ (sym holds ∙ shows.full e) in (e, ap (λ (t : Thing). t.bytes) one)
      by_full false e =
          let inside = slice_get_within box.made box.taken _ holds in
          let empty = (shows.empty e).0 in absurd (omega (arith, inside, empty))

  pub shows_made : (stamp : ℕ) (bytes words : List ℕ) → s.full ≡ false → bytes ≡ bytes_in version words
      → Shows version (filled stamp words) (with_made box stamp bytes)
  shows_made stamp bytes words empty spelled = record {
    stamp = refl;
    full = λ _. past box.made box.taken (record { stamp = stamp; bytes = bytes }) (sym (shows.empty empty).0)
        ∙ ap (λ b. Some (record { stamp = stamp; bytes = b })) spelled;
    empty = λ no. absurd (cc);
  }

  pub shows_taken : (stamp : ℕ) → s.full ≡ true → length box.made ≤ box.taken + 1
      → Shows version (vacant stamp) (with_taken box stamp)
  shows_taken stamp full one =
      let inside = slice_get_within box.made box.taken _ (shows.full full) in
      record {
        stamp = refl;
        full = λ no. absurd (cc);
        empty = λ _. (omega (arith, inside, one), refl);
      }

-- ---- all boxes

-- a box's number, of its link and its partition
number_at : (n : ℕ) → box_number (n / 16) (n % 16) ≡ n
number_at n = omega arith

pub record ShownAt (image : ImageParts) (left : List (List Settled)) (boxes : List Box) (n : ℕ) : Type 0 where
  pub link : List Settled
  pub settled : Settled
  pub box : Box
  pub link_there : slice_get left (n / 16) ≡ Some link
  pub part_there : slice_get link (n % 16) ≡ Some settled
  pub there : settled_at left n ≡ Some settled
  pub box_there : slice_get boxes n ≡ Some box
  pub shows : Shows image.version settled box

module _ (image : ImageParts) (left : List (List Settled)) (boxes : List Box) (all : ShowsAll image left boxes)
    (count : length boxes ≡ 16 * length image.links) (n : ℕ) where
  shown : n / 16 < length image.links → ShownAt image left boxes n
  shown below =
      let h = all.each (n / 16) (n % 16) below (omega arith) in
      record {
        link = h.0;
        settled = h.1;
        box = h.2;
        link_there = h.3;
        part_there = h.4;
        there = ap (λ o. at_part o (n % 16)) h.3 ∙ h.4;
        box_there = ap (slice_get boxes) (sym (number_at n)) ∙ h.5;
        shows = h.6;
      }

  link_of : (o : Option (List Settled)) (s : Settled) → slice_get left (n / 16) ≡ o → at_part o (n % 16) ≡ Some s
      → n / 16 < length image.links
  link_of None s e at = absurd (cc)
  link_of (Some link) s e at =
      let inside = slice_get_within left (n / 16) link e in omega (arith, inside, all.links)

  -- a box of the state, and the cluster's
  pub shown_of_settled : (s : Settled) → settled_at left n ≡ Some s
      → (box : Box) × (slice_get boxes n ≡ Some box) × Shows image.version s box
  shown_of_settled s at =
      let h = shown (link_of (slice_get left (n / 16)) s refl at) in
      (h.box, h.box_there, subst (λ x. Shows image.version x h.box) (same_Some h.settled s (sym h.there ∙ at)) h.shows)

  -- a box of the cluster, and the state's
  pub shown_of_box : (box : Box) → slice_get boxes n ≡ Some box
      → (s : Settled) × (settled_at left n ≡ Some s) × Shows image.version s box
  shown_of_box box at =
      let inside = slice_get_within boxes n box at in
      let h = shown (omega (arith, inside, count)) in
      (h.settled, h.there, subst (Shows image.version h.settled) (same_Some h.box box (sym h.box_there ∙ at)) h.shows)

  -- another thing stands in one box
  pub shows_changed : (after : List (List Settled)) (s : Settled) (now : Box) → ChangesBox left n s after
      → (before : Settled) → settled_at left n ≡ Some before → Shows image.version s now
      → ShowsAll image after (slice_set boxes n now)
  shows_changed after s now changes before at shows =
      let h = shown (link_of (slice_get left (n / 16)) before refl at) in
      let link_is : changes.link ≡ h.link = same_Some changes.link h.link (sym changes.there ∙ h.link_there) in
      let new_link : List Settled = slice_set h.link (n % 16) s in
      let after_is : after ≡ slice_set left (n / 16) new_link =
      changes.changed ∙ ap (λ l. slice_set left (n / 16) (slice_set l (n % 16) s)) link_is in
      subst (λ a. ShowsAll image a (slice_set boxes n now)) (sym after_is)
      (record { links = length-set left (n / 16) new_link ∙ all.links; each = each h })
    where
      each : (h : ShownAt image left boxes n) (link part : ℕ) → link < length image.links → part < 16
          → (settled : List Settled) × (b : Settled) × (box : Box)
          × (slice_get (slice_set left (n / 16) (slice_set h.link (n % 16) s)) link ≡ Some settled)
          × (slice_get settled part ≡ Some b)
          × (slice_get (slice_set boxes n now) (box_number link part) ≡ Some box)
          × Shows image.version b box
      each h link part below low =
          let was = all.each link part below low in
          let new_link : List Settled = slice_set h.link (n % 16) s in
          let here = get-set_same left (n / 16) h.link new_link h.link_there in
          elim (eqb_tells (n / 16) link) [
            | inl same ↦ (
                let link_there : slice_get (slice_set left (n / 16) new_link) link ≡ Some new_link =
                ap (slice_get (slice_set left (n / 16) new_link)) (sym same.1) ∙ here in
                let was_link : was.0 ≡ h.link =
                same_Some was.0 h.link (sym was.3 ∙ (ap (slice_get left) (sym same.1) ∙ h.link_there)) in
                elim (eqb_tells (n % 16) part) [
                  | inl at_part ↦ (
                    new_link,
                    s,
                    now,
                    link_there,
                    ap (slice_get new_link) (sym at_part.1) ∙ get-set_same h.link (n % 16) h.settled s h.part_there,
                    ap (slice_get (slice_set boxes n now))
                        (let e : box_number link part ≡ n = omega (arith, same.1, at_part.1) in e)
                        ∙ get-set_same boxes n h.box now h.box_there,
                    shows,
                  )
                  | inr other ↦ (
                    new_link,
                    was.1,
                    was.2,
                    link_there,
                    get-set_other h.link (n % 16) part s other.1 ∙ (ap (λ l. slice_get l part) (sym was_link) ∙ was.4),
                    get-set_other boxes n (box_number link part) now (λ e. other.1 (omega (arith, e, low))) ∙ was.5,
                    was.6,
                  )
                ]
                )
            | inr other ↦ (
              was.0,
              was.1,
              was.2,
              get-set_other left (n / 16) link new_link other.1 ∙ was.3,
              was.4,
              get-set_other boxes n (box_number link part) now (λ e. other.1 (omega (arith, e, low))) ∙ was.5,
              was.6,
            )
          ]

-- ---- before the first step

get-at : {X : Type 0} (n i : ℕ) (x : X) → i < n → slice_get (replicate n x) i ≡ Some x
get-at zero i x below = absurd (omega (arith, below))
get-at (suc n) zero x below = refl
get-at (suc n) (suc i) x below = get-at n i x (omega (arith, below))

-- all boxes are empty
pub shows_loaded : (image : ImageParts) (n : ℕ) → n ≡ length image.links
    → ShowsAll image (replicate n (replicate 16 (vacant 0))) (replicate (16 * length image.links) empty_box)
shows_loaded image n count = record {
  links = length-replicate n (replicate 16 (vacant 0)) ∙ count;
  each = λ link part below low. (
    replicate 16 (vacant 0),
    vacant 0,
    empty_box,
    get-at n link (replicate 16 (vacant 0)) (omega (arith, below, count)),
    get-at 16 part (vacant 0) low,
    get-at (16 * length image.links) (box_number link part) empty_box (omega (arith, below, low)),
    record { stamp = refl; full = λ no. absurd (cc); empty = λ _. (refl, refl) },
  );
}
