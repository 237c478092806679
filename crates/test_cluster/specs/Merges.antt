-- Events of several ranks, and the list that they are merged into.
use Rattle.std.specs.Prelude.{ℕ, suc, ◌≡◌, List, [], ◌∷◌}
use Rattle.cl_trace.specs.declared.events.Event.{Event}
use Rattle.cl_machine.specs.declared.steps.Step.{Step}
use Rattle.cl_record.specs.Records.{step_by}

-- one step of each rank, from this rank on
abbrev pub one_of_each : ℕ → List Event → List Step
one_of_each rank [] = []
one_of_each rank (event ∷ events) = step_by rank event ∷ one_of_each (suc rank) events

-- a sender's three events and its send, and a receive that was posted before it and is collected behind it
pub record SendAndReceive (one two three send receive collect : Event) : Type 0 where
  pub first : one.stamp ≡ 1
  pub second : two.stamp ≡ 2
  pub third : three.stamp ≡ 3
  pub sent : send.stamp ≡ 4
  pub posted : receive.stamp ≡ 1
  pub collected : collect.stamp ≡ 5
