-- More at one place of a list or of a table.
use Rattle.std.specs.Prelude.{ℕ, ◌+◌, List, [], get_or, set}
use Rattle.rvmc_stats.specs.Tallies.{capped, count_at}

-- with more at one place
abbrev pub added : List ℕ → ℕ → ℕ → List ℕ
added counts place more = set counts place (capped (count_at counts place + more))

abbrev pub added_in : List (List ℕ) → ℕ → ℕ → ℕ → List (List ℕ)
added_in rows row column more = set rows row (added (get_or rows row []) column more)
