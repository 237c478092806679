-- What of a record's text is written on an output piece by piece.
use Rattle.std.specs.Prelude.{◌⊎◌, ℕ, List, Option}
use Rattle.std.specs.Io.{StartsWith}
use Rattle.std.specs.Io.KnownBytes.{Appends, Keeps}
use Rattle.rvmc_line.specs.declared.line.RecordCommand.{RecordCommand}
use Rattle.rvmc_line.specs.declared.line.RecordCommand.TheVariants.{List as ListSteps}
use Rattle.rvmc_list.specs.declared.folding.Wanted.{Wanted}
use Rattle.rvmc_answers.specs.Below.{Fault}
use Rattle.rvmc_answers.specs.Below.faults
use Rattle.rvmc_views.specs.Records.{SaysOfRecord}

-- the command that lists these steps
abbrev pub list_of : Wanted → RecordCommand
list_of wanted = ListSteps wanted.from wanted.to wanted.rank wanted.calls

-- all that a command says of the bytes of a record stands there
pub record IsMade (command : RecordCommand) (bytes : List ℕ) (old new : Option (List ℕ)) : Type 0 where
  pub text : List ℕ
  pub says : SaysOfRecord command bytes text 0
  pub there : Appends old new text

-- a beginning of it does
pub record IsBegun (command : RecordCommand) (bytes : List ℕ) (old new : Option (List ℕ)) : Type 0 where
  pub text : List ℕ
  pub says : SaysOfRecord command bytes text 0
  pub front : List ℕ
  pub begins : StartsWith text front
  pub there : Appends old new front

-- what a fault leaves there: nothing, or where memory is refused a beginning
abbrev pub LeavesPieces : RecordCommand → List ℕ → Fault → Option (List ℕ) → Option (List ℕ) → Type 0
LeavesPieces command bytes faults.Memory old new = Keeps old new ⊎ IsBegun command bytes old new
LeavesPieces command bytes other old new = Keeps old new
