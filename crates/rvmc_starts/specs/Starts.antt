-- One start of a split, in one word.
use Rattle.std.specs.Prelude.{ℕ, ◌<◌, List, [], ◌∷◌, ◌++◌, ◌==◌, Option, None, option_and_then, option_map}
use Rattle.std.specs.Fmt.{decimal}
use Rattle.std.specs.List.{join_by, slice_split}
use Rattle.rvmc_words.specs.Number.{number_in, numbers_in}
use Rattle.rvmc_starts.specs.Hex.{hex_in, hex_word}
use Rattle.rvmc_starts.specs.Sums.{sum_in, sum_text}
use Rattle.rvmc_starts.specs.Turns.{turns_in, turns_text}
use Rattle.rvmc_starts.specs.declared.starts.Place.{Place}
use Rattle.rvmc_starts.specs.declared.starts.Start.{Start}

-- ---- how it is written

-- `3/12`
abbrev pub place_text : ℕ → ℕ → List ℕ
place_text number count = decimal number ++ 47 ∷ decimal count

-- `0,1`
abbrev pub numbers_text : List ℕ → List ℕ
numbers_text numbers = join_by decimal (44 ∷ []) numbers

-- each is below 256
abbrev pub AreBytes : List ℕ → Type 0
AreBytes [] = Unit {0}
AreBytes (n ∷ ns) = (n < 256) × AreBytes ns

-- `3/12:1234-0123456789abcdef:9f31c0de12345678:0,1:0x18,1,2-,0x3`
unfoldable pub start_text : Start → List ℕ
start_text start =
    place_text start.number start.count
    ++ 58 ∷ (sum_text start.image ++ 58 ∷ (hex_word start.split ++ 58 ∷ (numbers_text start.harts ++ 58 ∷ turns_text start.turns)))

-- ---- how it is read

-- a count from 1 on, and a number from 1 to the count
abbrev pub place_of : List ℕ → List ℕ → Option Place
place_of number count =
    option_and_then (λ count. option_map (λ number. record { number = number; count = count }) (number_in 1 count number))
    (number_in 1 18446744073709551615 count)

abbrev pub place_of_parts : List (List ℕ) → Option Place
place_of_parts (number ∷ count ∷ []) = place_of number count
place_of_parts others = None

unfoldable pub place_in : List ℕ → Option Place
place_in text = place_of_parts (slice_split (λ byte. byte == 47) text)

-- the five parts between colons
abbrev pub start_of_parts : List (List ℕ) → Option Start
start_of_parts (place ∷ image ∷ split ∷ harts ∷ turns ∷ []) =
    option_and_then (λ place. option_and_then (λ image. option_and_then (λ split. option_and_then (λ harts. option_map (λ turns.
    record { number = place.number; count = place.count; image = image; split = split; harts = harts; turns = turns })
    (turns_in turns)) (numbers_in harts)) (hex_in split)) (sum_in image)) (place_in place)
start_of_parts others = None

-- the start that a word writes
unfoldable pub start_in : List ℕ → Option Start
start_in text = start_of_parts (slice_split (λ byte. byte == 58) text)
