-- What the program leaves on standard output, and its status.
use Rattle.std.specs.Prelude.{◌≡◌, ℕ, ◌≤◌, ◌⊎◌, true, false, List, [], length, MatchResult, Option, Err, string_bytes}
use Rattle.std.specs.Io.{StartsWith}
use Rattle.std.specs.Io.KnownBytes.{Appends, Keeps}
use Rattle.rvmc_tool.specs.Answers.{HasThreads, Says}
use Rattle.rvmc_answers.specs.Ends.{IsFaulty}
use Rattle.rvmc_answers.specs.Images.{image_in}
use Rattle.rvmc_views.specs.Records.{is_in_pieces}
use Rattle.rvmc_tool.specs.Exploring.{IsCutSearchOf}
use Rattle.rvmc_tool.specs.Sessions.{is_session}
use Rattle.rvmc_cli.specs.Meaning.{Parses}
use Rattle.rvmc_line.specs.declared.line.CommandLine.{CommandLine}
use Rattle.rvmc_line.specs.declared.line.CommandLine.TheVariants.{Join, OfImage, OfRecord, Session, WordSession}
use Rattle.rvmc_line.specs.declared.line.ParseFault.{ParseFault}
use Rattle.rvmc_line.specs.declared.line.ParseFault.TheVariants as parse
pub use Rattle.rvmc_advice.specs.Quiet.{is_quiet}

-- memory or a thread was refused before there was a text
abbrev pub IsRefused : List ℕ → ℕ → Type 0
IsRefused text status = (text ≡ []) × (status ≡ 5)

-- of `run` with a right plan: what its threads left doesn't fit together, so there is no report and no record of it
abbrev pub IsUnlike : CommandLine → List ℕ → List ℕ → ℕ → Type 0
IsUnlike (OfImage source command) bytes text status =
    IsFaulty text status × MatchResult (image_in source bytes) (λ image. HasThreads command image) (λ _. ⊥)
IsUnlike (OfRecord command) bytes text status = ⊥
IsUnlike (Session rank) bytes text status = ⊥
IsUnlike WordSession bytes text status = ⊥
IsUnlike Join bytes text status = ⊥

-- what a command line says of the bytes, of which there are 2^26 at most; a session reads no more of them than it hears
pub record IsSaid (line : CommandLine) (bytes : List ℕ) (text : List ℕ) (status : ℕ) : Type 0 where
  pub short : is_session line ≡ false → length bytes ≤ 67108864
  pub says : Says line bytes text status ⊎ IsUnlike line bytes text status

-- memory was refused while the text was written: of `list` and `page` a beginning of it stands there, and of a search the
-- outcomes that were found
abbrev pub IsCutShort : CommandLine → List ℕ → List ℕ → ℕ → Type 0
IsCutShort (OfImage source command) bytes text status =
    (status ≡ 5) × (length bytes ≤ 67108864) × IsCutSearchOf source command bytes text
IsCutShort (OfRecord command) bytes text status =
    (is_in_pieces command ≡ true) × (status ≡ 5) × (whole : List ℕ) × IsSaid (OfRecord command) bytes whole 0
    × StartsWith whole text
IsCutShort other bytes text status = ⊥

-- the output, before and after, where every read and write succeeded
abbrev pub Answers : CommandLine → List ℕ → ℕ → Option (List ℕ) → Option (List ℕ) → Type 0
Answers line bytes status old new =
    (text : List ℕ)
    × (IsSaid line bytes text status ⊎ (IsRefused text status ⊎ IsCutShort line bytes text status))
    × Appends old new text

-- the output where there is no command line: help and the version stand there, and a refusal leaves it
abbrev pub ShowsFault : ParseFault → ℕ → Option (List ℕ) → Option (List ℕ) → Type 0
ShowsFault parse.Memory status old new = (status ≡ 5) × Keeps old new
ShowsFault (parse.Asked text) status old new = (status ≡ 0) × Appends old new (string_bytes text)
ShowsFault (parse.Refused text) status old new = (status ≡ 2) × Keeps old new

-- words that mean no command line, where every write succeeded
abbrev pub RefusesWords : List (List ℕ) → ℕ → Option (List ℕ) → Option (List ℕ) → Type 0
RefusesWords words status old new = (fault : ParseFault) × Parses words (Err fault) × ShowsFault fault status old new
