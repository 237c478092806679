-- Orders: whose turns follow one another, round and round.
use Rattle.std.specs.Prelude.{ℕ, ◌<◌, ◌%◌, List, length, slice_index, All}

-- an order of turns: some numbers, each of one that is there
pub record IsOrder (count : ℕ) (order : List ℕ) : Type 0 where
  pub named : 0 < length order
  pub there : All (λ number. number < count) order

-- whose turn slot n is, where the order is used round and round
abbrev pub in_slot : List ℕ → ℕ → ℕ
in_slot order n = slice_index order (n % length order)
