-- What was told of one start, as a text.
use Rattle.std.specs.Prelude.{ℕ, Bool, ◌&&◌, ◌==◌, List, [], ◌∷◌, ◌++◌, codes, length, if◌then◌else◌, nat_le, nat_lt, not}
use Rattle.std.specs.Fmt.{decimal}
use Rattle.std.specs.List.{flat_map, list_all}
use Rattle.rvmc_starts.specs.Hex.{hex_word}
use Rattle.rvmc_starts.specs.Starts.{numbers_text}
use Rattle.rvmc_starts.specs.Sums.{sum_text}
use Rattle.rvmc_starts.specs.Telling.{summary, unending_line}
use Rattle.rvmc_starts.specs.declared.parts.EndText.{EndText}
use Rattle.rvmc_starts.specs.declared.parts.Part.{Part}
use Rattle.rvmc_starts.specs.declared.sums.ImageSum.{ImageSum}

-- ---- the lines above the ends, each without its newline

-- `start 3 of 12 of split 9f31c0de12345678`
abbrev pub split_line : ℕ → ℕ → ℕ → List ℕ
split_line number count split =
    codes "start " ++ (decimal number ++ (codes " of " ++ (decimal count ++ (codes " of split " ++ hex_word split))))

-- `image 1234-0123456789abcdef harts 0,1`
abbrev pub image_line : ImageSum → List ℕ → List ℕ
image_line image harts = codes "image " ++ (sum_text image ++ (codes " harts " ++ numbers_text harts))

abbrev pub counts_end : Bool → List ℕ
counts_end unending = if unending then codes ", for ever" else []

-- `2 outcomes, 20 states, 0 left, status 7`, and `, for ever` where some runs go on
abbrev pub counts_line : ℕ → Part → List ℕ
counts_line ends part =
    decimal ends ++ (codes " outcomes, " ++ (decimal part.states ++ (codes " states, " ++ (decimal part.left ++ (codes " left, status "
    ++ (decimal part.status ++ counts_end part.unending))))))

-- ---- the ends

-- its line, how many bytes its text has, and the text
abbrev pub end_text : EndText → List ℕ
end_text end = end.head ++ 10 ∷ (decimal (length end.body) ++ (codes " bytes\n" ++ end.body))

-- ---- what stands below them

-- `: no other outcome with buffered sends from start 3 of 12` only where no state is left. A text of a start doesn't say
-- whether ranks that need buffers were looked for
abbrev pub verdict_of_part : Part → List ℕ
verdict_of_part part =
    if (part.left == 0)
    then codes ": no other outcome with buffered sends from start "
    ++ (decimal part.number ++ (codes " of " ++ decimal part.count))
    else (codes ": not all from start " ++ (decimal part.number ++ (codes " of " ++ (decimal part.count ++ (codes ": " ++ (decimal part.left ++ codes " states are left"))))))

-- ---- the whole

abbrev pub lines_above : Part → List ℕ
lines_above part =
    split_line part.number part.count part.split
    ++ 10 ∷ (image_line part.image part.harts ++ 10 ∷ (counts_line (length part.ends) part ++ 10 ∷ []))

abbrev pub lines_below : Part → List ℕ
lines_below part =
    unending_line part.unending ++ (summary (length part.ends) part.states ++ (verdict_of_part part ++ 10 ∷ []))

unfoldable pub part_text : Part → List ℕ
part_text part = lines_above part ++ (flat_map end_text part.ends ++ lines_below part)

-- one part behind another
abbrev pub parts_text : List Part → List ℕ
parts_text parts = flat_map part_text parts

-- ---- which parts there are

-- no newline is in it
abbrev pub is_line : List ℕ → Bool
is_line bytes = list_all (λ byte. not (byte == 10)) bytes

-- of a start of its split, for some harts, with lines that are lines
abbrev pub is_part : Part → Bool
is_part part =
    (nat_le 1 part.number && nat_le part.number part.count)
    && (nat_lt 0 (length part.harts) && list_all (λ end. is_line end.head) part.ends)
