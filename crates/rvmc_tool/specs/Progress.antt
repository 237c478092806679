-- Which command lines ask for lines that say how far a search came, and what stands on standard error then.
use Rattle.std.specs.Prelude.{ℕ, Bool, false, true, List, ◌++◌, Option, None, Some}
use Rattle.std.specs.Io.KnownBytes.{Appends}
use Rattle.cl_lines.specs.Progress.{AreProgress}
use Rattle.rvmc_hints.specs.HintLines.{AppendsHint, IsHint}
use Rattle.rvmc_line.specs.declared.line.CommandLine.{CommandLine}
use Rattle.rvmc_line.specs.declared.line.CommandLine.TheVariants.{OfImage}
use Rattle.rvmc_line.specs.declared.line.ImageCommand.{ImageCommand}
use Rattle.rvmc_line.specs.declared.line.ImageCommand.TheVariants.{Explore, ExploreFrom, Split}

-- a search does, by `--progress`
abbrev pub asks_progress : ImageCommand → Bool
asks_progress (Explore plan states turns number buffered progress) = progress
asks_progress (Split plan count turns progress) = progress
asks_progress (ExploreFrom start states turns number buffered progress) = progress
asks_progress other = false

abbrev pub wants_progress : CommandLine → Bool
wants_progress (OfImage source command) = asks_progress command
wants_progress other = false

-- of words that mean such a command line, or none at all
abbrev pub want_progress : Option CommandLine → Bool
want_progress None = false
want_progress (Some line) = wants_progress line

-- with a status of which standard error has no line of a fault: a hint or nothing, and before it those lines if they are
-- asked for
abbrev pub TellsQuietly : Bool → Option (List ℕ) → Option (List ℕ) → Type 0
TellsQuietly false old new = AppendsHint old new
TellsQuietly true old new = (lines hint : List ℕ) × AreProgress lines × IsHint hint × Appends old new (lines ++ hint)
