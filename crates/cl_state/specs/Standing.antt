-- What contracts see of how a rank stands when a hart's turn is read.
use Rattle.std.specs.Prelude.{ℕ, List}
use Rattle.rv_hart.specs.State.{State}
use Rattle.cl_calls.specs.declared.checking.Standing.{Standing}
use Rattle.cl_state.specs.declared.asking.Ask.{Ask}
use Rattle.cl_state.specs.declared.asking.Doing.{Doing}
use Rattle.cl_state.specs.Asked.{Part, asked_in}
use Rattle.cl_state.specs.Right.{IsChecked}

-- this hart's part of the rank, with this output
abbrev pub part_on : Standing → State → List ℕ → Part
part_on standing hart out = record {
  hart = hart;
  memory = standing.memory.now;
  requests = standing.requests.now;
  phases = standing.phases.now;
  out = out;
}

abbrev pub IsCheckedOn : Standing → Doing → Type 0
IsCheckedOn standing d =
    IsChecked standing.site.now standing.memory.now standing.requests.now standing.phases.now d

abbrev pub asked_on : Standing → Doing → Ask
asked_on standing d = asked_in standing.site.now standing.memory.now standing.requests.now standing.phases.now d
