-- Turns that follow one another, kept as runs.
use Rattle.std.specs.Prelude.{ℕ, zero, suc, ◌+◌, ◌-◌, ◌≡◌, ◌≤◌, List, [], ◌∷◌, ◌++◌}
use Rattle.cl_machine.specs.declared.steps.Step.{Step}
use Rattle.cl_order_laws.specs.Alike.{at_stamp}
use Rattle.cl_explore.specs.declared.runs.Run.{Run}

-- the same turn at so many stamps behind its own
abbrev pub later : Step → ℕ → List Step
later turn zero = []
later turn (suc n) = later turn n ++ at_stamp turn (turn.stamp + suc n) ∷ []

-- a turn, and the same at each stamp up to the last one
abbrev pub run_turns : Run → List Step
run_turns run = run.turn ∷ later run.turn (run.last - run.turn.stamp)

-- the turns of all runs, one run behind another
abbrev pub all_turns : List Run → List Step
all_turns [] = []
all_turns (run ∷ runs) = run_turns run ++ all_turns runs

-- the step is the run's turn at the stamp behind its last one
pub record Continues (run : Run) (step : Step) : Type 0 where
  pub up : run.turn.stamp ≤ run.last
  pub next : step ≡ at_stamp run.turn (suc run.last)
