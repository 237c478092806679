-- What a step on a box makes of it, by its two keys.
use Rattle.std.specs.Prelude.{ℕ, ◌≡◌, ◌+◌, List, [], ◌∷◌, ◌++◌, length, map, slice_get, Bool, true}
use Rattle.std.specs.Prelude.{Option, Some, option_map, unwrap_or, if◌then◌else◌}
use Rattle.std.proofs.Common.{zero, suc, refl, sym, ap, ◌∙◌, arith, ⊎_elim}
use Rattle.std.proofs.lemmas.Bool.{eq-eqb, ne_eqb}
use Rattle.std.proofs.lemmas.List.{length-append, length-map, map-append}
use Rattle.std.proofs.lemmas.Option.{slice_get-map, slice_get_within}
use Rattle.rv_image_types.specs.declared.images.ImageVersion.{ImageVersion}
use Rattle.part_box.specs.declared.view.Got.{Got}
use Rattle.part_box.specs.declared.view.Made.{Made}
use Rattle.part_box.specs.declared.view.Receiving.{Receiving}
use Rattle.part_box.specs.declared.view.Sending.{Sending}
use Rattle.part_box.specs.Gate.{last_take, ready_stamp, taken_stamp}
use Rattle.part_box.specs.LastReady.{last_ready}
use Rattle.part_box.specs.Steps.{with_freed, with_got, with_look}
use Rattle.part_box.specs.Steps as key
use Rattle.part_box.proofs.Agreed.{freed_now, got_is_made, made_is, open_is_empty}
use Rattle.part_box.proofs.Lists.{last_take-push}
use Rattle.part_phase.specs.Limits.{box_words}
use Rattle.cl_machine.specs.Boxes.{Holds, IsEmpty, with_made, with_taken}
use Rattle.cl_machine.specs.Keys.{bytes_in}
use Rattle.cl_record.specs.BoxKeys.{AgreeOn, box_of, last_stamp, thing_of}

pub last_ready-push : (made : List Made) (m : Made) → last_ready (made ++ m ∷ []) ≡ m.stamp
last_ready-push [] m = refl
last_ready-push (x ∷ []) m = refl
last_ready-push (x ∷ y ∷ made) m = last_ready-push (y ∷ made) m

last_ready-at : (made : List Made) (k : ℕ) (m : Made) → slice_get made k ≡ Some m → length made ≡ k + 1
    → last_ready made ≡ m.stamp
last_ready-at [] k m e h = absurd (cc)
last_ready-at (x ∷ []) zero m e h = let same : x ≡ m = cc in ap (λ (y : Made). y.stamp) same
last_ready-at (x ∷ []) (suc k) m e h = absurd (omega (arith, h))
last_ready-at (x ∷ y ∷ made) zero m e h = absurd (omega (arith, h))
last_ready-at (x ∷ y ∷ made) (suc k) m e h = last_ready-at (y ∷ made) k m e (omega (arith, h))

get-push : {X : Type 0} (xs : List X) (x : X) → slice_get (xs ++ x ∷ []) (length xs) ≡ Some x
get-push [] x = refl
get-push (y ∷ xs) x = get-push xs x

-- the stamp of a box from which all was taken, and of one where one thing wasn't
pub stamp_of_empty : (made : List Made) (got : List Got) → length made ≡ length got
    → last_stamp made got ≡ last_take got
stamp_of_empty made got e =
    ap (λ (b : Bool). if b then last_take got else last_ready made) (eq-eqb (length made) (length got) e)

pub stamp_of_full : (made : List Made) (got : List Got) → length made ≡ length got + 1
    → last_stamp made got ≡ last_ready made
stamp_of_full made got e =
    ap (λ (b : Bool). if b then last_take got else last_ready made)
    (ne_eqb (length made) (length got) (λ same. omega (arith, e, same)))

module _ (version : ImageVersion) (s : Sending) (r : Receiving) where
  count_of : length (box_of version s r).made ≡ length s.made
  count_of = length-map s.made (thing_of version)

  -- an open sender makes a thing of these words
  module _ (words : List ℕ) (stamp : ℕ) (before : AgreeOn version s r) (is_open : s.is_open ≡ true) where
    same : length s.made ≡ length r.got
    same = (open_is_empty (box_words version) before.0 s r before.1 is_open).0

    pub ready_empty : IsEmpty (box_of version s r)
    ready_empty = count_of ∙ same

    m : Made
    m = record { stamp = stamp; words = words }

    pub ready_box : box_of version (key.with_made (record s { filled = words }) stamp) r
        ≡ with_made (box_of version s r) stamp (bytes_in version words)
    unfolding m
    ready_box =
        let more : length (s.made ++ m ∷ []) ≡ length r.got + 1 =
        length-append s.made (m ∷ []) ∙ ap (λ n. n + 1) same in
        let at = stamp_of_full (s.made ++ m ∷ []) r.got more ∙ last_ready-push s.made m in
        λ i. record {
          made = map-append (thing_of version) s.made (m ∷ []) i;
          taken = length r.got;
          stamp = at i;
        }

  -- the receiver saw a thing, copied its words and emptied the box
  module _ (word gate stamp : ℕ) (words : List ℕ) (before : AgreeOn version s r)
      (after : AgreeOn version s (with_got (record (with_look r word) { copied = words }) stamp))
      (shows : ready_stamp word ≡ Some gate) where
    got : Got
    got = record { stamp = unwrap_or (ready_stamp word) 0; words = words; taken = stamp }

    there : slice_get s.made (length r.got) ≡ Some (record { stamp = unwrap_or (ready_stamp word) 0; words = words })
    unfolding got
    there =
        got_is_made (box_words version) after.0 s (with_got (record (with_look r word) { copied = words }) stamp) after.1
        (length r.got) got (get-push r.got got)

    more : length s.made ≡ length r.got + 1
    more =
        let inside = slice_get_within s.made (length r.got) _ there in
        ⊎_elim (λ same. absurd (omega (arith, same, inside))) (λ one. one)
        (made_is (box_words version) before.0 s r before.1)

    seen : unwrap_or (ready_stamp word) 0 ≡ gate
    seen = ap (λ (o : Option ℕ). unwrap_or o 0) shows

    stamp_is : last_stamp s.made r.got ≡ unwrap_or (ready_stamp word) 0
    stamp_is = stamp_of_full s.made r.got more ∙ last_ready-at s.made (length r.got) _ there more

    pub take_stamp : gate ≡ (box_of version s r).stamp
    take_stamp = sym seen ∙ sym stamp_is

    pub take_holds : Holds (box_of version s r) (bytes_in version words)
    take_holds =
        slice_get-map (thing_of version) s.made (length r.got)
        ∙ ap (option_map (thing_of version)) there
        ∙ ap (λ n. Some (record { stamp = n; bytes = bytes_in version words })) (sym stamp_is)

    pub take_box : box_of version s (with_got (record (with_look r word) { copied = words }) stamp)
        ≡ with_taken (box_of version s r) stamp
    unfolding got
    take_box =
        let count : length (r.got ++ got ∷ []) ≡ length r.got + 1 = length-append r.got (got ∷ []) in
        let at = stamp_of_empty s.made (r.got ++ got ∷ []) (more ∙ sym count) ∙ last_take-push r.got got in
        λ i. record {
          made = map (thing_of version) s.made;
          taken = count i;
          stamp = at i;
        }

  -- the sender saw that all was taken
  module _ (word gate : ℕ) (after : AgreeOn version (with_freed s word) r) (shows : taken_stamp word ≡ Some gate) where
    pub freed_empty : IsEmpty (box_of version s r)
    freed_empty = count_of ∙ (freed_now (box_words version) after.0 s r word gate after.1 shows).0

    pub freed_stamp : gate ≡ (box_of version s r).stamp
    freed_stamp =
        let now = freed_now (box_words version) after.0 s r word gate after.1 shows in
        now.1 ∙ sym (stamp_of_empty s.made r.got now.0)
