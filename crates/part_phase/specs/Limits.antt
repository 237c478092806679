-- The limits of a shape, by the image's version.
use Rattle.std.specs.Prelude.{ℕ, ◌*◌, ◌-◌, ◌%◌, ◌==◌, ◌&&◌, nat_le, Bool, List, ◌++◌, length, replicate}
use Rattle.rv_image_types.specs.declared.images.ImageVersion.{ImageVersion}
use Rattle.rv_image_types.specs.declared.images.ImageVersion.TheVariants.{One, Two}

-- the data words of a box
abbrev pub box_words : ImageVersion → ℕ
box_words One = 8
box_words Two = 16

-- 8 bytes a word: the most bytes that a partition has
abbrev pub box_bytes : ImageVersion → ℕ
box_bytes version = 8 * box_words version

-- a number of partitions
abbrev pub are_parts : ℕ → Bool
are_parts parts = nat_le 1 parts && nat_le parts 16

-- the bytes of one partition: whole words, as many as a box has at most
abbrev pub is_size : ImageVersion → ℕ → Bool
is_size version size = nat_le 8 size && nat_le size (box_bytes version) && (size % 8 == 0)

-- the bytes as they stand in a box: 0 behind them up to its width
abbrev pub padded : ImageVersion → List ℕ → List ℕ
padded version bytes = bytes ++ replicate (box_bytes version - length bytes) 0
