use Rattle.std.proofs.Common.{◌≡◌, ◌≤◌, take}
use Rattle.rvmc_report.specs.Recorded.{turns_in}
use Rattle.rvmc_report.proofs.recorded.turns_in.Given as goal

-- those so far
abbrev pub invariant-loop-step : goal.invariant-loop-step
invariant-loop-step l = (l.turns ≡ turns_in (take l.step-index l.steps) l.rank) × (l.turns ≤ l.step-index)
