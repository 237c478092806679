-- What is written on standard output as it is made.
use Rattle.std.specs.Prelude.{◌≡◌, ◌⊎◌, ℕ, Bool, true, false, List, Option, None}
use Rattle.std.specs.Io.KnownBytes.{Appends, Keeps}
use Rattle.cl_text.specs.Reading.{reading_record}
use Rattle.rvmc_line.specs.declared.line.CommandLine.{CommandLine}
use Rattle.rvmc_line.specs.declared.line.CommandLine.TheVariants.{Join, OfImage, OfRecord, Session, WordSession}
use Rattle.rvmc_line.specs.declared.line.ImageCommand.{ImageCommand}
use Rattle.rvmc_line.specs.declared.line.ImageCommand.TheVariants.{Explore}
use Rattle.rvmc_line.specs.declared.line.RecordCommand.{RecordCommand}
use Rattle.rvmc_answers.specs.Below.{Fault, fault_status}
use Rattle.rvmc_answers.specs.Below.faults
use Rattle.rvmc_tool.specs.Answers.{SaysOfImage}
use Rattle.rvmc_tool.specs.Exploring.{IsCutSearchOf}
use Rattle.rvmc_tool.specs.Making.{IsImageFault}
use Rattle.rvmc_views.specs.Faults.{IsReadFault}
use Rattle.rvmc_views.specs.Records.{is_in_pieces, record_part}
use Rattle.rvmc_views.specs.Pieces.{IsMade, LeavesPieces}

-- whether a command tells what a search of all orders finds, and no record of it
abbrev pub tells_search : ImageCommand → Bool
tells_search (Explore plan states turns None buffered progress) = true
tells_search other = false

-- whether what a command answers is written as it is made, and never stands in memory as a whole: of a session, of a search,
-- and of what is written in pieces
abbrev pub is_written_as_made : CommandLine → Bool
is_written_as_made (OfImage source command) = tells_search command
is_written_as_made (OfRecord command) = is_in_pieces command
is_written_as_made (Session rank) = true
is_written_as_made WordSession = true
is_written_as_made Join = false

-- all of it with the status 0; or what is left by a fault, with the fault's status
abbrev pub TellsPieces : RecordCommand → List ℕ → ℕ → Option (List ℕ) → Option (List ℕ) → Type 0
TellsPieces command bytes status old new =
    ((status ≡ 0) × IsMade command bytes old new)
    ⊎ ((fault : Fault) × IsReadFault command (reading_record (record_part command bytes)) fault
    × (status ≡ fault_status fault) × LeavesPieces command bytes fault old new)

-- ---- a search

-- what a fault leaves there: nothing, or where memory is refused a text that is cut short
abbrev pub LeavesCut : (List ℕ → Type 0) → Fault → Option (List ℕ) → Option (List ℕ) → Type 0
LeavesCut IsCut fault old new =
    Keeps old new ⊎ ((fault ≡ faults.Memory) × (text : List ℕ) × IsCut text × Appends old new text)

-- all that a command says of the bytes stands there
abbrev pub TellsAll : Bool → ImageCommand → List ℕ → ℕ → Option (List ℕ) → Option (List ℕ) → Type 0
TellsAll source command bytes status old new =
    (text : List ℕ) × SaysOfImage source command bytes text status × Appends old new text

-- that; or what is left by a fault, with the fault's status
abbrev pub TellsSearch : Bool → ImageCommand → List ℕ → ℕ → Option (List ℕ) → Option (List ℕ) → Type 0
TellsSearch source command bytes status old new =
    TellsAll source command bytes status old new
    ⊎ ((fault : Fault) × IsImageFault source command bytes fault × (status ≡ fault_status fault)
    × LeavesCut (IsCutSearchOf source command bytes) fault old new)
