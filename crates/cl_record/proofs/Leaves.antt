-- What a box is left with shows it.
use Rattle.std.specs.Prelude.{ℕ, zero, suc, ◌≡◌, ◌≤◌, ◌+◌, ◌*◌, List, [], ◌∷◌, ◌++◌, length, take}
use Rattle.std.specs.Prelude.{drop}
use Rattle.std.specs.Prelude.{slice_get, Bool, true, false, Some, option_map, if◌then◌else◌}
use Rattle.std.specs.List.{flat_map}
use Rattle.std.proofs.Common.{refl, sym, ap, ◌∙◌, arith, ⊎_elim}
use Rattle.std.proofs.Math.Seq.{take-append_seam}
use Rattle.std.proofs.lemmas.Bool.{cases_lt}
use Rattle.std.proofs.lemmas.Grind.{flat_map-append}
use Rattle.std.proofs.lemmas.List.{append-nil, append_assoc, length-append, length-map, length-take-le}
use Rattle.std.proofs.lemmas.List.{take-append-drop}
use Rattle.std.proofs.lemmas.Option.{slice_get-map}
use Rattle.rv_image_types.specs.declared.images.ImageVersion.{ImageVersion}
use Rattle.part_box.specs.declared.settled.Settled.{Settled}
use Rattle.part_box.specs.declared.view.Made.{Made}
use Rattle.part_box.specs.declared.view.Receiving.{Receiving}
use Rattle.part_box.specs.declared.view.Sending.{Sending}
use Rattle.part_box.specs.Gate.{last_take, things_of}
use Rattle.part_box.specs.LastReady.{last_ready}
use Rattle.part_box.specs.Gate as gate
use Rattle.part_box.specs.Settling.{IsSettled}
use Rattle.part_channel.specs.Words.{bytes_of_word}
use Rattle.part_channel.proofs.Words.{length-bytes}
use Rattle.part_phase.specs.Limits.{box_words}
use Rattle.cl_machine.specs.Boxes.{Holds}
use Rattle.cl_machine.specs.Keys.{Shows, bytes_in}
use Rattle.cl_record.specs.BoxKeys.{box_of, last_stamp, thing_of}
use Rattle.cl_record.proofs.Keys.{last_ready-push, stamp_of_empty, stamp_of_full}

take-all : {X : Type 0} (n : ℕ) (xs : List X) → length xs ≤ n → take n xs ≡ xs
take-all zero [] le = refl
take-all (suc n) [] le = refl
take-all zero (x ∷ xs) le = absurd (omega (arith, le))
take-all (suc n) (x ∷ xs) le = ap (λ ys. x ∷ ys) (take-all n xs (omega (arith, le)))

-- the bytes of so many words begin with those of the first of them
first_bytes : (w : ℕ) (words rest other : List ℕ) → w ≤ length words
    → take (8 * w) (flat_map bytes_of_word (take w words) ++ rest) ≡ take (8 * w) (flat_map bytes_of_word words ++ other)
first_bytes w words rest other le =
    let front = flat_map bytes_of_word (take w words) in
    let back = flat_map bytes_of_word (drop w words) in
    let long : length front ≡ 8 * w = length-bytes (take w words) ∙ ap (λ n. 8 * n) (length-take-le w words le) in
    let whole : flat_map bytes_of_word words ≡ front ++ back =
    ap (flat_map bytes_of_word) (sym (take-append-drop w words))
    ∙ flat_map-append bytes_of_word (take w words) (drop w words) in
    ap (λ n. take n (front ++ rest)) (sym long)
    ∙ take-append_seam front rest
    ∙ sym (take-append_seam front (back ++ other))
    ∙ ap (λ n. take n (front ++ (back ++ other))) long
    ∙ ap (take (8 * w)) (sym (append_assoc front back other) ∙ ap (λ xs. xs ++ other) (sym whole))

-- words past the width spell nothing
left_bytes : (version : ImageVersion) (words : List ℕ)
    → bytes_in version (take (box_words version) words) ≡ bytes_in version words
left_bytes version words =
    ⊎_elim (λ few. ap (bytes_in version) (take-all (box_words version) words (omega (arith, few))))
    (λ many. first_bytes (box_words version) words _ _ (omega (arith, many)))
    (cases_lt (length words) (box_words version))

get-push : {X : Type 0} (xs : List X) (x : X) → slice_get (xs ++ x ∷ []) (length xs) ≡ Some x
get-push [] x = refl
get-push (y ∷ xs) x = get-push xs x

module _ (version : ImageVersion) (s : Sending) (r : Receiving) (b : Settled)
    (is : IsSettled (box_words version) s r b) where
  m : Made
  m = record { stamp = b.stamp; words = take (box_words version) b.words }

  module _ (full : b.full ≡ true) where
    made : s.made ≡ things_of r.got ++ m ∷ []
    unfolding m
    made = is.made ∙ ap (λ (f : Bool). things_of r.got ++ (if f then m ∷ [] else [])) full

    count : length (things_of r.got) ≡ length r.got
    count = length-map r.got gate.thing_of

    more : length s.made ≡ length r.got + 1
    more = ap length made ∙ length-append (things_of r.got) (m ∷ []) ∙ ap (λ n. n + 1) count

    full_stamp : b.stamp ≡ last_stamp s.made r.got
    unfolding m
    full_stamp = sym (stamp_of_full s.made r.got more ∙ ap last_ready made ∙ last_ready-push (things_of r.got) m)

    full_holds : Holds (box_of version s r) (bytes_in version b.words)
    unfolding m
    full_holds =
        slice_get-map (thing_of version) s.made (length r.got)
        ∙ ap (option_map (thing_of version))
        (ap (λ xs. slice_get xs (length r.got)) made
        ∙ ap (slice_get (things_of r.got ++ m ∷ [])) (sym count)
        ∙ get-push (things_of r.got) m)
        ∙ (λ i. Some (record { stamp = full_stamp i; bytes = left_bytes version b.words i }))

  module _ (empty : b.full ≡ false) where
    all_got : s.made ≡ things_of r.got
    unfolding m
    all_got =
        is.made ∙ ap (λ (f : Bool). things_of r.got ++ (if f then m ∷ [] else [])) empty ∙ append-nil (things_of r.got)

    same : length s.made ≡ length r.got
    same = ap length all_got ∙ length-map r.got gate.thing_of

    empty_stamp : b.stamp ≡ last_stamp s.made r.got
    empty_stamp = (is.empty empty).0 ∙ sym (stamp_of_empty s.made r.got same)

  stamp_is : (f : Bool) → b.full ≡ f → b.stamp ≡ last_stamp s.made r.got
  stamp_is true e = full_stamp e
  stamp_is false e = empty_stamp e

  pub shows : Shows version b (box_of version s r)
  shows = record {
    stamp = stamp_is b.full refl;
    full = λ e. full_holds e;
    empty = λ e. (length-map s.made (thing_of version) ∙ same e, (is.empty e).1);
  }
