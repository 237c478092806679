-- A page's parts, one behind another, and the rows of a memory.
use Rattle.std.specs.Prelude.{ℕ, ◌≡◌, ◌<◌, ◌≤◌, ◌⊎◌, ◌+◌, ◌-◌, ◌*◌, List, ◌++◌, drop, length, min, take}
use Rattle.std.specs.List.{flat_map, range_with_len}
use Rattle.std.proofs.Common.{◌∙◌, ap, append_assoc, arith, inl, inr, sym}
use Rattle.std.proofs.lemmas.Bool.{cases_lt}
use Rattle.std.proofs.lemmas.List.{length-drop, take_all}
use Rattle.std.proofs.lemmas.List.Folds.{flat_map-map}
use Rattle.rvmc_changes.specs.Given.{difference_in}
use Rattle.rvmc_changes.specs.Given.{differences}
use Rattle.rvmc_changes.specs.declared.steps.Change.{Change}
use Rattle.rvmc_picture.proofs.Below.{flat_map-range_more}
use Rattle.rvmc_page.specs.Starts.{row_line, row_text}
use Rattle.rvmc_page.specs.Steps.{change_text, changes_text}

-- what was added in four parts, and in five
joined_four : (old a b c d one two three four : List ℕ) → one ≡ old ++ a → two ≡ one ++ b → three ≡ two ++ c
    → four ≡ three ++ d → four ≡ old ++ (a ++ (b ++ (c ++ d)))
joined_four old a b c d one two three four is1 is2 is3 is4 =
    is4
    ∙ ap (λ l. l ++ d) (is3 ∙ ap (λ l. l ++ c) (is2 ∙ ap (λ l. l ++ b) is1))
    ∙ append_assoc ((old ++ a) ++ b) c d
    ∙ append_assoc (old ++ a) b (c ++ d)
    ∙ append_assoc old a (b ++ (c ++ d))

pub joined_five : (old a b c d e one two three four five : List ℕ) → one ≡ old ++ a → two ≡ one ++ b → three ≡ two ++ c
    → four ≡ three ++ d → five ≡ four ++ e → five ≡ old ++ (a ++ (b ++ (c ++ (d ++ e))))
joined_five old a b c d e one two three four five is1 is2 is3 is4 is5 =
    joined_four old a b c (d ++ e) one two three five is1 is2 is3 (is5 ∙ ap (λ l. l ++ e) is4 ∙ append_assoc three d e)

-- ---- changes

-- the text of a change, as contracts see the change
abbrev pub text_of : Change → List ℕ
text_of change = change_text (difference_in change)

pub texts_of : (changes : List Change) → flat_map text_of changes ≡ changes_text (differences changes)
texts_of changes = sym (flat_map-map change_text difference_in changes)

-- ---- rows

-- a row ends behind its 32 bytes, or where the bytes end
row_cut : (bytes : List ℕ) (from to : ℕ) → from ≤ length bytes → to ≡ min (length bytes) (from + 32)
    → take (to - from) (drop from bytes) ≡ take 32 (drop from bytes)
row_cut bytes from to inside is = go (cases_lt (from + 32) (length bytes))
  where
    left : length (drop from bytes) ≡ length bytes - from
    left = length-drop from bytes

    go : ((from + 32 < length bytes) ⊎ (length bytes ≤ from + 32))
        → take (to - from) (drop from bytes) ≡ take 32 (drop from bytes)
    go (inl whole) =
        let all : to - from ≡ 32 = omega (arith, whole, is) in ap (λ n. take n (drop from bytes)) all
    go (inr part) =
        take_all (to - from) (drop from bytes) (omega (arith, left, part, is, inside))
        ∙ sym (take_all 32 (drop from bytes) (omega (arith, left, part, inside)))

-- one row more
pub row_more : (bytes old text new : List ℕ) (n to : ℕ) → 32 * n ≤ length bytes
    → to ≡ min (length bytes) (32 * n + 32)
    → text ≡ old ++ flat_map (row_line bytes) (range_with_len 0 n)
    → new ≡ text ++ row_text (32 * n) (take (to - 32 * n) (drop (32 * n) bytes))
    → new ≡ old ++ flat_map (row_line bytes) (range_with_len 0 (n + 1))
unfolding row_line
row_more bytes old text new n to inside is so added =
    added
    ∙ ap (λ row. text ++ row_text (32 * n) row) (row_cut bytes (32 * n) to inside is)
    ∙ ap (λ l. l ++ row_line bytes n) so
    ∙ append_assoc old (flat_map (row_line bytes) (range_with_len 0 n)) (row_line bytes n)
    ∙ ap (λ l. old ++ l) (sym (flat_map-range_more (row_line bytes) n))
