-- The bytes of a partition as data words of a box.
use Rattle.std.specs.Prelude.{ℕ, ◌-◌, ◌*◌, replicate, List, ◌++◌, length}
use Rattle.std.specs.Int.{w64, to_le_bytes}
use Rattle.std.specs.List.{flat_map}

-- the bytes of a word, lowest first
abbrev pub bytes_of_word : ℕ → List ℕ
bytes_of_word word = to_le_bytes w64 word

-- the bytes of words, and 0 up to 128
abbrev pub bytes_of_words : List ℕ → List ℕ
bytes_of_words words = flat_map bytes_of_word words ++ replicate (128 - 8 * length words) 0
