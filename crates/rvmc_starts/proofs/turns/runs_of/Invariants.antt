use Rattle.std.proofs.Common.{◌≡◌, ◌≤◌, ◌++◌, drop}
use Rattle.rvmc_starts.specs.Turns.{runs_from}
use Rattle.rvmc_starts.proofs.turns.runs_of.Given as goal

abbrev pub invariant-loop-turn : goal.invariant-loop-turn
invariant-loop-turn l =
    (l.run.count ≤ 16777216) × (l.runs.items ++ runs_from l.run (drop l.turn-index l.others) ≡ l.initial.runs.items ++ runs_from l.initial.run l.others)
