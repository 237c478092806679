-- What the parser of a command line answers.
use Rattle.std.specs.Prelude.{◌≡◌, ⊤, Option, Some, None, Result, Ok, Err}
use Rattle.clap.specs.declared.error.kind.ErrorKind.TheVariants as kind
use Rattle.rvmc_line.specs.declared.line.CommandLine.{CommandLine}
use Rattle.rvmc_line.specs.declared.line.ParseFault.{ParseFault}
use Rattle.rvmc_line.specs.declared.line.ParseFault.TheVariants as parse
use Rattle.rvmc_cli.specs.declared.wrong.Wrong.{Wrong}
use Rattle.rvmc_cli.specs.declared.wrong.Wrong.TheVariants as wrong
use Rattle.rvmc_cli.specs.Meaning.{IsParseFault}

-- what was found is what is meant, unless memory was refused
abbrev pub Finds : {X : Type 0} → Option X → Result X Wrong → Type 0
Finds meant (Ok found) = meant ≡ Some found
Finds meant (Err wrong.Memory) = ⊤
Finds meant (Err other) = meant ≡ None

-- the same where no memory is taken: nothing else refuses it
abbrev pub Reads : {X : Type 0} → Option X → Result X Wrong → Type 0
Reads meant (Ok found) = meant ≡ Some found
Reads meant (Err wrong.Memory) = ⊥
Reads meant (Err other) = meant ≡ None

-- what is told of the command that clap found: its command line, or that a value isn't one, unless memory was refused
abbrev pub Tells : Option CommandLine → Result CommandLine ParseFault → Type 0
Tells meant (Ok line) = meant ≡ Some line
Tells meant (Err parse.Memory) = ⊤
Tells meant (Err (parse.Asked text)) = ⊥
Tells meant (Err (parse.Refused text)) = meant ≡ None

-- what is told of words that clap took, whose value isn't one
abbrev pub IsTold : Wrong → ParseFault → Type 0
IsTold wrong.Memory fault = fault ≡ parse.Memory
IsTold other fault = IsParseFault kind.ValueValidation fault
