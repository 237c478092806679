-- What was told of a start, read back by the numbers of its text alone.
use Rattle.std.specs.Prelude.{ℕ, suc, zero, ◌+◌, ◌-◌, ◌≤◌, ◌≡◌, ◌==◌, Bool, List, [], ◌∷◌, MatchOption, Option, Some, None, drop, if◌then◌else◌, length, nat_le, nat_lt, option_and_then, option_map, position, take}
use Rattle.std.specs.List.{slice_split}
use Rattle.std.specs.Str.{is_utf8}
use Rattle.rvmc_words.specs.Number.{number_in, numbers_in}
use Rattle.rvmc_starts.specs.Hex.{hex_in}
use Rattle.rvmc_starts.specs.Sums.{any_number, sum_in}
use Rattle.rvmc_starts.specs.declared.parts.EndText.{EndText}
use Rattle.rvmc_starts.specs.declared.parts.Part.{Part}
use Rattle.rvmc_starts.specs.declared.reading.Counts.{Counts}
use Rattle.rvmc_starts.specs.declared.reading.EndRead.{EndRead}
use Rattle.rvmc_starts.specs.declared.reading.Head.{Head}
use Rattle.rvmc_starts.specs.declared.reading.Searched.{Searched}
use Rattle.rvmc_starts.specs.declared.reading.SplitPlace.{SplitPlace}

-- ---- lines

abbrev pub is_newline : ℕ → Bool
is_newline byte = byte == 10

-- the first line and what stands behind its newline, where it has one
unfoldable pub cut_in : List ℕ → Option (List ℕ × List ℕ)
cut_in bytes = option_map (λ end. (take end bytes, drop (end + 1) bytes)) (position is_newline bytes)

-- the same, where the line is text
unfoldable pub text_cut_in : List ℕ → Option (List ℕ × List ℕ)
text_cut_in bytes = option_and_then (λ cut. if is_utf8 cut.0 then Some cut else None) (cut_in bytes)

-- the rest is what the bytes end with
pub record IsBehind (rest bytes : List ℕ) : Type 0 where
  pub within : length rest ≤ length bytes
  pub is : rest ≡ drop (length bytes - length rest) bytes

-- the words between blanks
abbrev pub words : List ℕ → List (List ℕ)
words line = slice_split (λ byte. byte == 32) line

-- ---- the lines above the ends

abbrev pub place_of : List (List ℕ) → Option SplitPlace
place_of (w0 ∷ number ∷ w2 ∷ count ∷ w4 ∷ w5 ∷ split ∷ []) =
    option_and_then (λ number. option_and_then (λ count. option_map (λ split.
    record { number = number; count = count; split = split }) (hex_in split)) (any_number count)) (any_number number)
place_of others = None

unfoldable pub place_in : List ℕ → Option SplitPlace
place_in line = place_of (words line)

abbrev pub image_of : List (List ℕ) → Option Searched
image_of (w0 ∷ image ∷ w2 ∷ harts ∷ []) =
    option_and_then (λ image. option_map (λ harts. record { image = image; harts = harts }) (numbers_in harts)) (sum_in image)
image_of others = None

unfoldable pub image_in : List ℕ → Option Searched
image_in line = image_of (words line)

-- more words follow where some runs go on for ever
abbrev pub counts_of : List (List ℕ) → List ℕ → Option Counts
counts_of (ends ∷ w1 ∷ states ∷ w3 ∷ left ∷ w5 ∷ w6 ∷ w7 ∷ more) status =
    option_and_then (λ ends. option_and_then (λ states. option_and_then (λ left. option_map (λ status.
    record { ends = ends; states = states; left = left; status = status; unending = nat_lt 0 (length more) })
    (number_in 0 255 status)) (any_number left)) (any_number states)) (any_number ends)
counts_of others status = None

abbrev pub counts_before : List (List ℕ) → List (List ℕ) → Option Counts
counts_before words [] = None
counts_before words (status ∷ more) = counts_of words status

-- the eighth word has the status, before its first comma
abbrev pub counts_with : List (List ℕ) → Option Counts
counts_with (w0 ∷ w1 ∷ w2 ∷ w3 ∷ w4 ∷ w5 ∷ w6 ∷ status ∷ more) =
    counts_before (w0 ∷ w1 ∷ w2 ∷ w3 ∷ w4 ∷ w5 ∷ w6 ∷ status ∷ more) (slice_split (λ byte. byte == 44) status)
counts_with others = None

unfoldable pub counts_in : List ℕ → Option Counts
counts_in line = counts_with (words line)

-- ---- the ends

abbrev pub size_of : List (List ℕ) → Option ℕ
size_of (size ∷ word ∷ []) = any_number size
size_of others = None

unfoldable pub size_in : List ℕ → Option ℕ
size_in line = size_of (words line)

abbrev pub end_of : List ℕ → ℕ → List ℕ → Option EndText
end_of head size rest =
    if nat_le size (length rest) then Some (record { head = head; body = take size rest }) else None

-- the end that stands first, and what stands behind it
abbrev pub end_in : List ℕ → Option (EndText × List ℕ)
end_in bytes =
    option_and_then (λ head. option_and_then (λ line. option_and_then (λ size. option_map (λ end. (end, drop size line.1))
    (end_of head.0 size line.1)) (size_in line.0)) (text_cut_in head.1)) (cut_in bytes)

pub record IsEndAt (bytes : List ℕ) (read : EndRead) : Type 0 where
  pub is : end_in bytes ≡ Some (read.end, drop read.length bytes)
  pub within : read.length ≤ length bytes

abbrev pub IsEndRead : List ℕ → Option EndRead → Type 0
IsEndRead bytes found = MatchOption found (end_in bytes ≡ None) (IsEndAt bytes)

-- so many ends, one behind another
unfoldable pub ends_in : ℕ → List ℕ → Option (List EndText)
ends_in zero bytes = Some []
ends_in (suc count) bytes =
    option_and_then (λ read. option_map (λ ends. read.0 ∷ ends) (ends_in count read.1)) (end_in bytes)

-- ---- the whole

abbrev pub head_of : List ℕ → List ℕ → List ℕ → Option Head
head_of place image counts =
    option_and_then (λ place. option_and_then (λ searched. option_map (λ counts.
    record { place = place; searched = searched; counts = counts }) (counts_in counts)) (image_in image)) (place_in place)

abbrev pub told_of : Head → List ℕ → Option Part
told_of head rest =
    option_map (λ ends. record {
      number = head.place.number;
      count = head.place.count;
      split = head.place.split;
      image = head.searched.image;
      harts = head.searched.harts;
      ends = ends;
      states = head.counts.states;
      left = head.counts.left;
      status = head.counts.status;
      unending = head.counts.unending;
    }) (ends_in head.counts.ends rest)

unfoldable pub told_in : List ℕ → Option Part
told_in bytes =
    option_and_then (λ one. option_and_then (λ two. option_and_then (λ three. option_and_then (λ head. told_of head three.1)
    (head_of one.0 two.0 three.0)) (text_cut_in two.1)) (text_cut_in one.1)) (text_cut_in bytes)
