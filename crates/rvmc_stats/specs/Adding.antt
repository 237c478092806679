-- One step more in tables.
use Rattle.std.specs.Prelude.{ℕ, List, [], ◌∷◌, ◌++◌}
use Rattle.rvmc_stats.specs.Counted.{Received, Taken}
use Rattle.rvmc_stats.specs.Tables.{AreOf, AreOfMail}
use Rattle.rvmc_stats.specs.declared.mail.Mail.{Mail}
use Rattle.rvmc_stats.specs.declared.tables.Tables.{Tables}

-- whatever messages mail is of, it is of these too
pub record AddsMail (old : Mail) (more : List Received) (new : Mail) : Type 0 where
  pub adds : (ranks : ℕ) (all : List Received) → AreOfMail ranks all old → AreOfMail ranks (all ++ more) new

-- whatever steps tables are of, they are of this one too
pub record Adds (old : Tables) (taken : Taken) (new : Tables) : Type 0 where
  pub adds : (ranks words : ℕ) (all : List Taken) → AreOf ranks words all old → AreOf ranks words (all ++ taken ∷ []) new
