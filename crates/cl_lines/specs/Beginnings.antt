-- How much of a line a writer takes.
use Rattle.std.specs.Prelude.{ℕ, List, Option, take}
use Rattle.std.specs.Io.KnownBytes.{Appends}

-- so many bytes of a line, from its beginning on
abbrev pub AppendsBeginning : List ℕ → Option (List ℕ) → Option (List ℕ) → Type 0
AppendsBeginning line old new = (count : ℕ) × Appends old new (take count line)
