-- What stands on standard output.
use Rattle.std.specs.Prelude.{ℕ, Bool, true, false, List}
use Rattle.rvmc_answers.specs.declared.outputs.Output.{Output}
use Rattle.rvmc_answers.specs.declared.outputs.Output.TheVariants.{Spent, SpentRecord, Text, Waiting}
use Rattle.rvmc_answers.specs.declared.outputs.Output.TheVariants as output

-- the bytes of an output
abbrev pub output_bytes : Output → List ℕ
output_bytes (Text bytes) = bytes.items
output_bytes (Waiting bytes) = bytes.items
output_bytes (Spent bytes) = bytes.items
output_bytes (output.Record bytes) = bytes
output_bytes (SpentRecord bytes) = bytes

-- it says that a hart waits, and not for what
abbrev pub hides_a_wait : Output → Bool
hides_a_wait (Waiting bytes) = true
hides_a_wait other = false

-- it is of a run that a budget cut short
abbrev pub ends_by_budget : Output → Bool
ends_by_budget (Waiting bytes) = true
ends_by_budget (Spent bytes) = true
ends_by_budget (SpentRecord bytes) = true
ends_by_budget other = false
