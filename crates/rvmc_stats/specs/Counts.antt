-- What a list or a table of numbers tells.
use Rattle.std.specs.Prelude.{ℕ, ◌≡◌, ◌<◌, List, [], get_or, length}
use Rattle.rvmc_stats.specs.Tallies.{capped, count_at}

-- at each of so many places there is the number that belongs there
pub record IsTally (len : ℕ) (number : ℕ → ℕ) (counts : List ℕ) : Type 0 where
  pub len_is : length counts ≡ len
  pub each : (place : ℕ) → place < len → count_at counts place ≡ capped (number place)

-- in each of so many rows, in each of so many columns
pub record IsGrid (rows columns : ℕ) (number : ℕ → ℕ → ℕ) (cells : List (List ℕ)) : Type 0 where
  pub rows_are : length cells ≡ rows
  pub each : (row : ℕ) → row < rows → IsTally columns (number row) (get_or cells row [])
