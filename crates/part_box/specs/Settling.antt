-- What is left in a box of all that its keys made and got.
use Rattle.std.specs.Prelude.{◌≡◌, ℕ, ◌^◌, ◌<◌, ◌≤◌, List, [], ◌∷◌, ◌++◌, replicate, All, take, slice_index, false}
use Rattle.std.specs.Prelude.{if◌then◌else◌}
use Rattle.part_box.specs.declared.view.Made.{Made}
use Rattle.part_box.specs.declared.view.Sending.{Sending}
use Rattle.part_box.specs.declared.view.Receiving.{Receiving}
use Rattle.part_box.specs.declared.settled.Settled.{Settled}
use Rattle.part_box.specs.Gate.{things_of, last_take, IsInTurn, IsLimited, ShowsTake, ShowsMade}

-- what is left in a box of this width: one thing where it is full
abbrev pub leftover : ℕ → Settled → List Made
leftover width b = if b.full then record { stamp = b.stamp; words = take width b.words } ∷ [] else []

-- What a box of this width is left with, where its sender knows s and its receiver knows r
pub record IsSettled (width : ℕ) (s : Sending) (r : Receiving) (b : Settled) : Type 0 where
  -- what was made is what was got, stamps included, and then what is left
  pub made : s.made ≡ things_of r.got ++ leftover width b
  -- an empty box has the stamp of the last take, and words 0
  pub empty : b.full ≡ false → (b.stamp ≡ last_take r.got) × (b.words ≡ replicate 16 0)
  -- words past the width are 0
  pub past : (i : ℕ) → width ≤ i → slice_index b.words i ≡ 0
  -- the stamp of the box is below 2^62
  pub stamp : b.stamp < 2 ^ 62
  -- and so are those of all makes and takes
  pub limited : IsLimited s.made r.got
  -- made stamp k < take stamp k < made stamp k + 1
  pub in_turn : IsInTurn s.made r.got
  -- each gate word that was loaded shows what it must
  pub freed : All (ShowsTake r.got) s.loads
  pub looked : All (ShowsMade s.made) r.loads
