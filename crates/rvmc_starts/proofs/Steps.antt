-- One step of what the loops compute.
use Rattle.std.proofs.Common.{◌≡◌, ◌<◌, ◌≤◌, ◌+◌, ◌-◌, ◌∙◌, ℕ, suc, Bool, true, false, refl, sym, ap, arith, List, [], ◌∷◌, ◌++◌, length, length-drop, drop, drop-drop, append_assoc, append-nil, map, Option, Some, None, nat_le, true≢false}
use Rattle.std.proofs.lemmas.Bool.{leb-true}
use Rattle.std.specs.List.{list_any}
use Rattle.std.specs.Prelude.{is_some, option_map}
use Rattle.rvmc_starts.specs.Reading.{IsBehind, IsEndAt, cut_in, end_in, end_of, ends_in, size_in, text_cut_in}
use Rattle.rvmc_starts.specs.Using.{any_whole, lacking}
use Rattle.rvmc_starts.specs.declared.parts.EndText.{EndText}
use Rattle.rvmc_starts.specs.declared.reading.EndRead.{EndRead}
use Rattle.rvmc_starts.specs.declared.parts.Part.{Part}

pub list_any_map : {X Y : Type 0} (p : Y → Bool) (f : X → Y) (xs : List X) → list_any p (map f xs) ≡ list_any (λ x. p (f x)) xs
list_any_map p f [] = refl
list_any_map p f (x ∷ xs) = rw (list_any_map p f xs) refl

-- a start that is told whole is passed
pub lacking_step : (parts : List Part) (number more less : ℕ) → more ≡ suc less → any_whole parts number ≡ true
    → lacking parts number more ≡ lacking parts (number + 1) less
lacking_step parts number more less e whole = rw (e, whole) refl

pub lacking_stop : (parts : List Part) (number more less : ℕ) → more ≡ suc less → any_whole parts number ≡ false
    → lacking parts number more ≡ Some number
lacking_stop parts number more less e whole = rw (e, whole) refl

pub one_less : (count place : ℕ) → place < count → count - place ≡ suc (count - (place + 1))
one_less count place l = omega (arith, l)

-- an end is read before the others
pub ends_step : (more less : ℕ) (bytes rest : List ℕ) (end : EndText) → more ≡ suc less → end_in bytes ≡ Some (end, rest)
    → ends_in more bytes ≡ option_map (λ ends. end ∷ ends) (ends_in less rest)
unfolding ends_in
ends_step more less bytes rest end e is = rw (e, is) refl

pub ends_stop : (more less : ℕ) (bytes : List ℕ) → more ≡ suc less → end_in bytes ≡ None → ends_in more bytes ≡ None
unfolding ends_in
ends_stop more less bytes e is = rw (e, is) refl

-- ---- what bytes end with

pub behind_drop : (bytes : List ℕ) (n : ℕ) → n ≤ length bytes → IsBehind (drop n bytes) bytes
behind_drop bytes n l =
    let long : length (drop n bytes) ≡ length bytes - n = length-drop n bytes in
    let back : length bytes - (length bytes - n) ≡ n = omega (arith, l) in
    record { within = omega (arith, long); is = rw (long, back) refl }

pub behind_both : (bytes mid rest : List ℕ) → IsBehind mid bytes → IsBehind rest mid → IsBehind rest bytes
behind_both bytes mid rest one two =
    let sum : (length bytes - length mid) + (length mid - length rest) ≡ length bytes - length rest = omega (arith, one.within, two.within) in
    record {
      within = omega (arith, one.within, two.within);
      is = two.is ∙ (ap (drop (length mid - length rest)) one.is
          ∙ (drop-drop (length mid - length rest) (length bytes - length mid) bytes ∙ ap (λ k. drop k bytes) sum));
    }

pub some_none : {X : Type 0} {x : X} → Some x ≡ None → ⊥
some_none e = absurd (true≢false (ap is_some e))

-- where an end is
pub end_at : (bytes head behind line rest : List ℕ) (size : ℕ) (end : EndText) → Some (head, behind) ≡ cut_in bytes
    → Some (line, rest) ≡ text_cut_in behind → Some size ≡ size_in line → Some end ≡ end_of head size rest
    → IsBehind behind bytes → IsBehind rest behind → IsEndAt bytes (record { end = end; length = length bytes - length rest + size })
end_at bytes head behind line rest size end cut text sized is one two = go _ refl
  where
    both_behind : IsBehind rest bytes
    both_behind = behind_both bytes behind rest one two

    after : drop (length bytes - length rest + size) bytes ≡ drop size rest
    after =
        sym (drop-drop size (length bytes - length rest) bytes) ∙ ap (drop size) (sym both_behind.is)

    go : (b : Bool) → nat_le size (length rest) ≡ b → IsEndAt bytes (record { end = end; length = length bytes - length rest + size })
    go true fits =
        let short : size ≤ length rest = leb-true size (length rest) fits in
        record {
          is = rw (← cut, ← text, ← sized, ← is, after) refl;
          within = omega (arith, short, both_behind.within);
        }
    go false fits = absurd (some_none (is ∙ (rw fits refl)))

-- ---- ends one behind another

join_maps : (ends : List EndText) (end : EndText) (found : Option (List EndText))
    → option_map (λ more. ends ++ more) (option_map (λ more. end ∷ more) found) ≡ option_map (λ more. (ends ++ end ∷ []) ++ more) found
join_maps ends end None = refl
join_maps ends end (Some more) = ap Some (sym (append_assoc ends (end ∷ []) more))

pub ends_more : (count place at : ℕ) (bytes : List ℕ) (ends : List EndText) (read : EndRead) (found : Option (List EndText))
    → place < count → IsEndAt (drop at bytes) read
    → found ≡ option_map (λ more. ends ++ more) (ends_in (count - place) (drop at bytes))
    → found ≡ option_map (λ more. (ends ++ read.end ∷ []) ++ more) (ends_in (count - (place + 1)) (drop (at + read.length) bytes))
ends_more count place at bytes ends read found l is same =
    same
    ∙ (ap (option_map (λ more. ends ++ more)) (ends_step (count - place) (count - (place + 1)) (drop at bytes) _ read.end (one_less count place l) is.is)
    ∙ (join_maps ends read.end (ends_in (count - (place + 1)) (drop read.length (drop at bytes)))
    ∙ ap (λ rest. option_map (λ more. (ends ++ read.end ∷ []) ++ more) (ends_in (count - (place + 1)) rest)) (drop-drop read.length at bytes)))

pub ends_none : (count place : ℕ) (bytes : List ℕ) (ends : List EndText) (found : Option (List EndText)) → place < count
    → end_in bytes ≡ None → found ≡ option_map (λ more. ends ++ more) (ends_in (count - place) bytes) → None ≡ found
ends_none count place bytes ends found l none same =
    sym (same ∙ ap (option_map (λ more. ends ++ more)) (ends_stop (count - place) (count - (place + 1)) bytes (one_less count place l) none))

pub ends_all : (count place : ℕ) (bytes : List ℕ) (ends : List EndText) (found : Option (List EndText)) → count ≤ place
    → found ≡ option_map (λ more. ends ++ more) (ends_in (count - place) bytes) → Some ends ≡ found
unfolding ends_in
ends_all count place bytes ends found l same =
    let done : count - place ≡ 0 = omega (arith, l) in
    sym (same ∙ rw done (ap Some (append-nil ends)))
