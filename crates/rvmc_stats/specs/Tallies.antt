-- A list of numbers that are counted up, and a table of them.
use Rattle.std.specs.Prelude.{ℕ, ◌-◌, ◌^◌, min, List, [], get_or}

-- a number as 64 bits hold it: where it is greater, the greatest that they hold
abbrev pub capped : ℕ → ℕ
capped n = min n (2 ^ 64 - 1)

-- the number at a place, and in a row and a column; 0 where there is no such place
abbrev pub count_at : List ℕ → ℕ → ℕ
count_at counts place = get_or counts place 0

abbrev pub cell_at : List (List ℕ) → ℕ → ℕ → ℕ
cell_at rows row column = count_at (get_or rows row []) column
