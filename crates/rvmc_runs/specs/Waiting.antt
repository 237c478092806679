-- Runs that were cut short while a hart waited.
use Rattle.std.specs.Prelude.{◌&&◌, Bool, false, true}
use Rattle.std.specs.List.{list_any}
use Rattle.cl_rank.specs.declared.stops.Stop.{Stop}
use Rattle.cl_rank.specs.declared.stops.Stop.TheVariants.{Budget}
use Rattle.cl_record.specs.declared.records.Record.{Record}
use Rattle.cl_state.specs.declared.state.RankState.{RankState}
use Rattle.rv_hart.specs.declared.state.Mode.{Mode}
use Rattle.rv_hart.specs.declared.state.Mode.TheVariants.{Waiting}
use Rattle.rvmc_line.specs.declared.line.Written.{Written}
use Rattle.rvmc_line.specs.declared.line.Written.TheVariants.{Report}

abbrev pub is_waiting : Mode → Bool
is_waiting (Waiting wait) = true
is_waiting other = false

abbrev pub has_waiting : RankState → Bool
has_waiting state = list_any (λ hart. is_waiting hart.mode) state.harts.items

abbrev pub is_budget : Stop → Bool
is_budget Budget = true
is_budget other = false

-- a rank was stopped by its budget
abbrev pub is_spent : Record → Bool
is_spent left = list_any is_budget left.stops.items

-- a hart waits, of that rank or of another
abbrev pub any_waits : Record → Bool
any_waits left = list_any has_waiting left.ranks.items

-- what is written of it is its report alone, and both is so
abbrev pub is_told_waiting : Written → Record → Bool
is_told_waiting Report left = is_spent left && any_waits left
is_told_waiting other left = false
