-- The boxes of alike clusters are full alike.
use Rattle.std.proofs.Common.{◌≡◌, ◌∙◌, ℕ, ◌<◌, ◌≤◌, inl, inr, refl, sym, ap, subst, arith, Bool, true, false, List, length}
use Rattle.std.specs.Prelude.{nat_lt}
use Rattle.std.proofs.lemmas.Bool.{cases_Bool, ltb-false, ltb-true}
use Rattle.std.proofs.lemmas.Option.{same_Some, slice_get_past}
use Rattle.rv_image_types.specs.declared.images.ImageParts.{ImageParts}
use Rattle.rv_image_types.specs.declared.images.ImageVersion.{ImageVersion}
use Rattle.part_box.specs.declared.settled.Settled.{Settled}
use Rattle.cl_machine.specs.Boxes.{Box, IsEmpty, box_number}
use Rattle.cl_deadlock_laws.proofs.Boxes.{not_held}
use Rattle.cl_order_laws.specs.Alike.{AlikeBoxes, AreEach}
use Rattle.cl_order_laws.proofs.Boxes.{empty_before, empty_too}
use Rattle.cl_machine.specs.Keys.{Shows, ShowsAll}
use Rattle.rvmc_inspect.specs.Waits.{box_is_full, is_full_box, part_holds}

-- what shows an empty box isn't full, and what shows a full one is
empty_shown : (version : ImageVersion) (left : Settled) (box : Box) → Shows version left box → IsEmpty box
    → left.full ≡ false
empty_shown version left box shows empty = go left.full refl
  where
    go : (b : Bool) → left.full ≡ b → left.full ≡ false
    go false e = e
    go true e = absurd (not_held box _ empty (shows.full e))

same_bools : (x y : Bool) → (x ≡ false → y ≡ false) → (y ≡ false → x ≡ false) → y ≡ x
same_bools false y there back = there refl
same_bools true false there back = sym (back refl)
same_bools true true there back = refl

full_same : (version : ImageVersion) (left right : Settled) (a b : Box) → Shows version left a → Shows version right b
    → AlikeBoxes a b → right.full ≡ left.full
full_same version left right a b shows also alike =
    same_bools left.full right.full
    (λ e. empty_shown version right b also (empty_too a b alike (shows.empty e).0))
    (λ e. empty_shown version left a shows (empty_before a b alike (also.empty e).0))

module _ (image : ImageParts) (left right : List (List Settled)) (ones others : List Box) (shows : ShowsAll image left ones)
    (also : ShowsAll image right others) (alike : AreEach AlikeBoxes ones others) where
  inside : (link part : ℕ) → link < length image.links → part < 16 → box_is_full right link part ≡ box_is_full left link part
  inside link part low few =
      let one = shows.each link part low few in
      let two = also.each link part low few in
      let v = alike.each (box_number link part) one.2 one.5 in
      let same : v.0 ≡ two.2 = same_Some v.0 two.2 (sym v.1 ∙ two.5) in
      ap (λ o. part_holds o part) two.3 ∙ ap is_full_box two.4
      ∙ full_same image.version one.1 two.1 one.2 two.2 one.6 two.6 (subst (AlikeBoxes one.2) same v.2)
      ∙ sym (ap (λ o. part_holds o part) one.3 ∙ ap is_full_box one.4)

  none : (boxes : List (List Settled)) (link part : ℕ) → length boxes ≤ link → box_is_full boxes link part ≡ false
  none boxes link part past = ap (λ o. part_holds o part) (slice_get_past boxes link past)

  pub box_same : (link part : ℕ) → part < 16 → box_is_full right link part ≡ box_is_full left link part
  box_same link part few = elim (cases_Bool (nat_lt link (length image.links))) [
    | inl low ↦ inside link part (ltb-true link (length image.links) low) few
    | inr high ↦
        let past = ltb-false link (length image.links) high in
        let one = shows.links in
        let two = also.links in
        none right link part (omega (arith, past, two)) ∙ sym (none left link part (omega (arith, past, one)))
  ]
