-- Boxes: what was made ready of one partition of one link, and how much of it was taken (MPI 4.1, chapter 4.2).
use Rattle.std.specs.Prelude.{ℕ, ◌+◌, ◌*◌, List, [], ◌∷◌, ◌++◌, ◌≡◌, length, slice_get, Some}

-- a partition that was made ready: the stamp of its Ready, and its bytes
pub record Thing : Type 0 where
  pub stamp : ℕ
  pub bytes : List ℕ

pub record Box : Type 0 where
  pub made : List Thing
  pub taken : ℕ
  pub stamp : ℕ  -- of the last Ready or Take

abbrev pub empty_box : Box
empty_box = record { made = []; taken = 0; stamp = 0 }

-- a box's number among all boxes; each link has 16
abbrev pub box_number : ℕ → ℕ → ℕ
box_number link part = 16 * link + part

-- everything that was made ready was taken
abbrev pub IsEmpty : Box → Type 0
IsEmpty box = length box.made ≡ box.taken

-- the next thing to take stands in the box since its stamp, with these bytes
abbrev pub Holds : Box → List ℕ → Type 0
Holds box bytes = slice_get box.made box.taken ≡ Some (record { stamp = box.stamp; bytes = bytes })

abbrev pub with_made : Box → ℕ → List ℕ → Box
with_made box stamp bytes = record {
  made = box.made ++ record { stamp = stamp; bytes = bytes } ∷ [];
  taken = box.taken;
  stamp = stamp;
}

abbrev pub with_taken : Box → ℕ → Box
with_taken box stamp = record { made = box.made; taken = box.taken + 1; stamp = stamp }
