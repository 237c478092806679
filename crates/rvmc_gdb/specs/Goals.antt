-- A place to which the next run leads, and whose hart is meant there.
use Rattle.std.specs.Prelude.{ℕ, ◌&&◌, nat_le, nat_lt, if◌then◌else◌, Bool, length, Option, Some, None, option_and_then}
use Rattle.cl_debug.specs.Debugging.{Debugging}
use Rattle.rvmc_gdb.specs.declared.session.Goal.{Goal}
use Rattle.rvmc_gdb.specs.declared.session.Who.{Who}
use Rattle.rvmc_gdb.specs.Serving.{Serving}

abbrev pub goal_who : Goal → Who
goal_who goal = record { rank = goal.rank; hart = goal.hart }

abbrev pub with_goal : Serving → Option Goal → Serving
with_goal serving goal = record serving { goal = goal }

-- it lies ahead, in the record; or behind
abbrev pub is_ahead : Debugging → Goal → Bool
is_ahead debugging goal = nat_lt debugging.place goal.place && nat_le goal.place (length debugging.steps)

abbrev pub is_behind : Debugging → Goal → Bool
is_behind debugging goal = nat_lt goal.place debugging.place

abbrev pub goal_ahead : Serving → Option Goal
goal_ahead serving =
    option_and_then (λ goal. if is_ahead serving.debugging goal then Some goal else None) serving.goal

abbrev pub goal_behind : Serving → Option Goal
goal_behind serving =
    option_and_then (λ goal. if is_behind serving.debugging goal then Some goal else None) serving.goal
