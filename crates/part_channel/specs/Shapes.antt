-- Shapes: how one transfer is cut into partitions.
use Rattle.std.specs.Prelude.{◌≡◌, ℕ, ◌*◌, ◌%◌, ◌<◌, ◌≤◌}

-- a side's shape: so many partitions of so many bytes, both 0 until it is set
pub record IsShape (parts size : ℕ) : Type 0 where
  pub most : parts ≤ 16
  pub largest : size ≤ 128
  -- a partition is whole words
  pub whole : size % 8 ≡ 0

-- the sender's cut of what a receiver cuts into partitions of its own: it leaves the total
pub record IsCut (parts size boxes bytes : ℕ) : Type 0 where
  pub shape : IsShape boxes bytes
  pub total : 0 < boxes → boxes * bytes ≡ parts * size
