-- What was written while a search went on.
use Rattle.std.specs.Prelude.{ℕ, ◌≡◌, List, [], Bool, true, Option}
use Rattle.std.specs.Io.KnownBytes.{Appends}
use Rattle.rvmc_explore.specs.Telling.{AddsOutcomes}
use Rattle.rvmc_explore.specs.declared.outcomes.Outcome.{Outcome}

-- these were told, and stand behind what a writer held before if it took all
abbrev pub WereTold : List Outcome → Bool → Option (List ℕ) → Option (List ℕ) → Type 0
WereTold told taken before now =
    (text : List ℕ) × AddsOutcomes 1 told [] text × (taken ≡ true → Appends before now text)
