-- By what an image is known again.
use Rattle.std.specs.Prelude.{ℕ, List, [], ◌∷◌, ◌++◌, ◌==◌, length, Option, None, option_and_then, option_map, take}
use Rattle.std.specs.Int.{from_be_bytes, w64}
use Rattle.std.specs.Fmt.{decimal}
use Rattle.std.specs.List.{slice_split}
use Rattle.sha2.specs.Sha256.{sha256}
use Rattle.rvmc_words.specs.Number.{number_in}
use Rattle.rvmc_starts.specs.Hex.{hex_in, hex_word}
use Rattle.rvmc_starts.specs.declared.sums.ImageSum.{ImageSum}

-- the size, and the first eight bytes of the digest, the highest one first
abbrev pub sum_of : List ℕ → ImageSum
sum_of bytes = record { size = length bytes; digest = from_be_bytes w64 (take 8 (sha256 bytes)) }

-- `1234-0123456789abcdef`
abbrev pub sum_text : ImageSum → List ℕ
sum_text sum = decimal sum.size ++ 45 ∷ hex_word sum.digest

-- a number of 64 bits in decimal
abbrev pub any_number : List ℕ → Option ℕ
any_number text = number_in 0 18446744073709551615 text

-- a size and a digest
abbrev pub sum_of_parts : List (List ℕ) → Option ImageSum
sum_of_parts (size ∷ digest ∷ []) =
    option_and_then (λ size. option_map (λ digest. record { size = size; digest = digest }) (hex_in digest)) (any_number size)
sum_of_parts others = None

-- the size and the digest that a text writes
unfoldable pub sum_in : List ℕ → Option ImageSum
sum_in text = sum_of_parts (slice_split (λ byte. byte == 45) text)
