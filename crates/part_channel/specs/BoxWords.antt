-- The words of some bytes, one by one.
use Rattle.std.specs.Prelude.{ℕ, zero, suc, ◌*◌, nat_lt, List, [], ◌∷◌, ◌++◌, length, take, drop, if◌then◌else◌}
use Rattle.std.specs.Int.{w64, from_le_bytes}

-- word i of these bytes, lowest byte first, and 0 past them
abbrev pub word_at : List ℕ → ℕ → ℕ
word_at bytes i = if nat_lt (8 * i) (length bytes) then from_le_bytes w64 (take 8 (drop (8 * i) bytes)) else 0

-- the first so many words of them
abbrev pub words_of : List ℕ → ℕ → List ℕ
words_of bytes zero = []
words_of bytes (suc n) = words_of bytes n ++ word_at bytes n ∷ []
