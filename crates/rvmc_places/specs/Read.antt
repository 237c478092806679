-- What is read of a name, without the references that it is read by.
use Rattle.std.specs.Prelude.{ℕ, List}
use Rattle.rvmc_places.specs.declared.names.Parts.{Parts}
use Rattle.rvmc_places.specs.declared.names.SourceLine.{SourceLine}
use Rattle.rvmc_places.specs.Names.{Line}

abbrev pub both_of : Parts → List ℕ × List ℕ
both_of parts = (parts.front.now, parts.back.now)

abbrev pub read_of : SourceLine → Line
read_of line = record { file = line.file.now; number = line.number.now }
