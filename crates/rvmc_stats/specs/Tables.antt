-- The tables of steps.
use Rattle.std.specs.Prelude.{ℕ, List}
use Rattle.rvmc_stats.specs.Counts.{IsGrid, IsTally}
use Rattle.rvmc_stats.specs.Counted.{Received, Taken, bytes_between, calls_made, messages_of, all_received, taken_by, turns_at}
use Rattle.rvmc_stats.specs.Counted.{rows_of_calls, turns_of, waits_of}
use Rattle.rvmc_stats.specs.declared.mail.Mail.{Mail}
use Rattle.rvmc_stats.specs.declared.tables.Tables.{Tables}

-- messages and their bytes, by sender and receiver
pub record AreOfMail (ranks : ℕ) (all : List Received) (mail : Mail) : Type 0 where
  pub messages : IsGrid ranks ranks (messages_of all) mail.messages
  pub bytes : IsGrid ranks ranks (bytes_between all) mail.bytes

-- in each place there is the number that belongs there
pub record AreOf (ranks words : ℕ) (all : List Taken) (tables : Tables) : Type 0 where
  pub taken : IsTally ranks (taken_by all) tables.taken
  pub waits : IsTally ranks (waits_of all) tables.waits
  pub turns : IsGrid ranks 9 (turns_of all) tables.turns
  pub calls : IsGrid rows_of_calls 21 (calls_made all) tables.calls
  pub mail : AreOfMail ranks (all_received all) tables.mail
  pub places : IsTally words (turns_at all) tables.places
