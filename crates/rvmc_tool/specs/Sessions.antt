-- Sessions, which answer as their input comes: those of `gdb`, and those of `debug -`.
use Rattle.std.specs.Prelude.{◌≡◌, ℕ, Bool, true, false, List, Option, None, Some}
use Rattle.rvmc_line.specs.declared.line.CommandLine.{CommandLine}
use Rattle.rvmc_line.specs.declared.line.CommandLine.TheVariants.{Session, WordSession}
use Rattle.rvmc_answers.specs.Below.{Fault, fault_status}
use Rattle.rvmc_serve.specs.Lines.{IsWordSession}
use Rattle.rvmc_serve.specs.Sessions.{IsSession}

-- whether a command answers its input as it comes, and not all of it at once
abbrev pub is_session : CommandLine → Bool
is_session (Session rank) = true
is_session WordSession = true
is_session other = false

-- it ends where the client leaves or the input ends, or with a fault
abbrev pub session_status : Option Fault → ℕ
session_status None = 0
session_status (Some fault) = fault_status fault

-- what is answered to the packets behind a record
pub record SaysOfSession (rank : Option ℕ) (bytes text : List ℕ) (status : ℕ) : Type 0 where
  pub ended : Option Fault
  pub is : IsSession rank bytes text ended
  pub status_is : status ≡ session_status ended

-- what is answered to the lines behind a record
pub record SaysOfWordSession (bytes text : List ℕ) (status : ℕ) : Type 0 where
  pub ended : Option Fault
  pub is : IsWordSession bytes text ended
  pub status_is : status ≡ session_status ended
