-- What the words of a box spell.
use Rattle.std.specs.Prelude.{◌≡◌, ℕ, ◌<◌, ◌≤◌, ◌%◌, ◌==◌, List, length, replicate, slice_index, true, false}
use Rattle.part_box.specs.declared.settled.Settled.{Settled}
use Rattle.part_box.specs.Gate.{stamp_of}
use Rattle.part_box.specs.Rule.{gate_of, data_word}

-- these are the data words of a box of this width, and 0 past them
pub record IsDataOf (width : ℕ) (words read : List ℕ) : Type 0 where
  pub long : length read ≡ 16
  pub same : (i : ℕ) → i < width → slice_index read i ≡ data_word words i
  pub past : (i : ℕ) → width ≤ i → slice_index read i ≡ 0

-- what the words of a box of this width spell: a thing where the gate is odd
pub record Spells (width : ℕ) (words : List ℕ) (b : Settled) : Type 0 where
  pub full : b.full ≡ (gate_of words % 2 == 1)
  pub stamp : b.stamp ≡ stamp_of (gate_of words)
  pub there : b.full ≡ true → IsDataOf width words b.words
  pub nothing : b.full ≡ false → b.words ≡ replicate 16 0
