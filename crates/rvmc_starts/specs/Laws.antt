-- Laws of what is written and read.
use Rattle.std.specs.Prelude.{ℕ, ◌≡◌, ◌++◌, IsTrue, List, Some}
use Rattle.rvmc_starts.specs.PartRead.{FitsPart}
use Rattle.rvmc_starts.specs.Parts.{is_part, part_text}
use Rattle.rvmc_starts.specs.StartFits.{IsStart}
use Rattle.rvmc_starts.specs.Starts.{start_in, start_text}
use Rattle.rvmc_starts.specs.declared.parts.Part.{Part}
use Rattle.rvmc_starts.specs.declared.starts.Start.{Start}

-- what is written of a start is read as that start
abbrev pub StartsReadBackLaw : Type 0
StartsReadBackLaw = (start : Start) → IsStart start → start_in (start_text start) ≡ Some start

-- the same bytes begin with the text of one part at most
abbrev pub PartsReadOnceLaw : Type 0
PartsReadOnceLaw =
    (one two : Part) (rest more : List ℕ) → FitsPart one → FitsPart two → IsTrue (is_part one) → IsTrue (is_part two)
    → part_text one ++ rest ≡ part_text two ++ more → (one ≡ two) × (rest ≡ more)
