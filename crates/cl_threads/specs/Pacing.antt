-- Ranks that are kept together, by the counts of turns that one saw of the others.
use Rattle.std.specs.Prelude.{◌≡◌, ℕ, ◌+◌, ◌<◌, ◌≤◌, List, Option, None, Some, slice_get}
use Rattle.cl_threads.specs.declared.sights.Slowest.{Slowest}

-- it was seen that a rank has come to so many turns
abbrev pub WasSeen : List (Option ℕ) → ℕ → ℕ → Type 0
WasSeen counts rank turns = slice_get counts rank ≡ Some (Some turns)

-- whoever saw this may take the turn of this number, from 0: it is at most `lead` turns ahead of each rank that it saw
abbrev pub MayTake : ℕ → List (Option ℕ) → ℕ → Type 0
MayTake lead counts number = (rank turns : ℕ) → WasSeen counts rank turns → number ≤ turns + lead

-- the slowest of the first ranks, so many, as they were seen, if one was: nobody was seen with fewer turns
unfoldable pub IsSlowest : List (Option ℕ) → ℕ → Option Slowest → Type 0
IsSlowest counts count None = (rank turns : ℕ) → rank < count → ¬ (WasSeen counts rank turns)
IsSlowest counts count (Some slowest) =
    (slowest.rank < count)
    × WasSeen counts slowest.rank slowest.turns
    × ((rank turns : ℕ) → rank < count → WasSeen counts rank turns → slowest.turns ≤ turns)
