-- The program without threads, and the whole of its input.
use Rattle.std.specs.Prelude.{◌≡◌, ℕ, ◌≤◌, ◌⊎◌, if◌then◌else◌, true, List, length, IfSome, Option, None, Some}
use Rattle.std.specs.Prelude.{option_and_then, Result, Ok, Err}
use Rattle.std.specs.Io.KnownBytes.{Appends, Keeps}
use Rattle.rvmc_answers.specs.Ends.{end_status}
use Rattle.rvmc_tool.specs.Making.{needs_threads}
use Rattle.rvmc_answers.specs.Outputs.{output_bytes}
use Rattle.rvmc_answers.specs.declared.answers.Answer.{Answer}
use Rattle.rvmc_cli.specs.Meaning.{meaning_of}
use Rattle.rvmc_line.specs.declared.line.CommandLine.{CommandLine}
use Rattle.rvmc_answers.specs.Below.{Fault, fault_status}
use Rattle.rvmc_tool.specs.Tool.{RefusesWords}

-- what words mean where there are no threads: `run` is no command there
abbrev pub plain_meaning_of : List (List ℕ) → Option CommandLine
plain_meaning_of words =
    option_and_then (λ line. if needs_threads line then None else Some line) (meaning_of words)

-- such words: they mean no command line at all, or one that needs threads, which is a fault of the command line
abbrev pub RefusesPlain : List (List ℕ) → ℕ → Option (List ℕ) → Option (List ℕ) → Type 0
RefusesPlain words status old new =
    RefusesWords words status old new
    ⊎ (IfSome (meaning_of words) (λ line. needs_threads line ≡ true) × (status ≡ 2) × Keeps old new)

-- ---- the steps to an output

-- all of the input, where it is known, of 2^26 bytes at most
pub record IsWhole (known : Option (List ℕ)) (bytes : List ℕ) : Type 0 where
  pub all : IfSome known (λ all. bytes ≡ all)
  pub short : length bytes ≤ 67108864

-- the output of an answer, and its status; of a fault nothing
abbrev pub Tells : Result Answer Fault → ℕ → Option (List ℕ) → Option (List ℕ) → Type 0
Tells (Ok answer) status old new = (status ≡ end_status answer.end) × Appends old new (output_bytes answer.output)
Tells (Err fault) status old new = (status ≡ fault_status fault) × Keeps old new
