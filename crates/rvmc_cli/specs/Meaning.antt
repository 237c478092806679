-- What the words of a command line mean: clap's own walk over the table of commands, and then the value of each option.
use Rattle.std.specs.Prelude.{◌≡◌, ◌≢◌, ⊤, Bool, true, false, List, [], ◌∷◌, length, Option, Some, None, Result, Ok}
use Rattle.std.specs.Prelude.{Err, ◌==◌, if◌then◌else◌, option_and_then}
use Rattle.clap.specs.Words.{Row, Text, fault_of, subcommand_of}
use Rattle.clap.specs.Kinds.{IsAmong, Kinds, or_else}
use Rattle.clap.specs.declared.error.kind.ErrorKind.{ErrorKind}
use Rattle.clap.specs.declared.error.kind.ErrorKind.TheVariants as kind
use Rattle.rvmc_cli.specs.Commands.{line_in, rvmc_app}
use Rattle.rvmc_line.specs.declared.line.CommandLine.{CommandLine}
use Rattle.rvmc_line.specs.declared.line.CommandLine.TheVariants.{OfImage}
use Rattle.rvmc_line.specs.declared.line.ImageCommand.TheVariants.{One}
use Rattle.rvmc_line.specs.declared.line.Written.TheVariants as written
use Rattle.rvmc_line.specs.declared.line.ParseFault.{ParseFault}
use Rattle.rvmc_line.specs.declared.line.ParseFault.TheVariants as parse

-- the kinds of fault that clap finds in the words, help and the version among them
unfoldable pub faults_in : List Text → Kinds
faults_in words = fault_of rvmc_app words

-- the command that clap finds, and what it finds for it
unfoldable pub command_in : List Text → Option (Text × List Row)
command_in words = subcommand_of rvmc_app words

-- without words it is `one --source`; else clap has to take the words, each value has to be one, and they have to go
-- together
abbrev pub meaning_of : List Text → Option CommandLine
meaning_of [] = Some (OfImage true (One 1000000 None None written.Report))
meaning_of (word ∷ words) =
    if length (faults_in (word ∷ words)) == 0
    then option_and_then (λ found. line_in found.0 found.1) (command_in (word ∷ words))
    else None

-- why words that mean nothing are refused: by clap, or else for a value that isn't one, or that doesn't go with others
abbrev pub refusals_of : List Text → Kinds
refusals_of words = or_else (faults_in words) (kind.ValueValidation ∷ [])

-- help and the version are asked for, and are no fault
abbrev pub is_request : ErrorKind → Bool
is_request kind.DisplayHelp = true
is_request kind.DisplayVersion = true
is_request other = false

-- clap's error of a kind, as `parse` answers it; memory may be wanting for its text
abbrev pub IsParseFault : ErrorKind → ParseFault → Type 0
IsParseFault k parse.Memory = ⊤
IsParseFault k (parse.Asked text) = is_request k ≡ true
IsParseFault k (parse.Refused text) = (is_request k ≡ false) × (k ≢ kind.OutOfMemory)

-- one of the refusals of the words
abbrev pub IsRefusalOf : List Text → ParseFault → Type 0
IsRefusalOf words fault = (k : ErrorKind) × IsAmong k (refusals_of words) × IsParseFault k fault

-- what `parse` answers
abbrev pub Parses : List Text → Result CommandLine ParseFault → Type 0
Parses words (Ok line) = meaning_of words ≡ Some line
Parses words (Err parse.Memory) = ⊤
Parses words (Err (parse.Asked text)) = (meaning_of words ≡ None) × IsRefusalOf words (parse.Asked text)
Parses words (Err (parse.Refused text)) = (meaning_of words ≡ None) × IsRefusalOf words (parse.Refused text)
