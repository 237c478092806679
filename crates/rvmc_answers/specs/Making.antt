-- How an answer to an image ends, and its faults.
use Rattle.std.specs.Prelude.{⊤}
use Rattle.rvmc_inspect.specs.Below.{ExploreRefusal, Fault}
use Rattle.rvmc_inspect.specs.Below.faults
use Rattle.rvmc_answers.specs.declared.answers.End.{End}
use Rattle.rvmc_answers.specs.declared.answers.End.TheVariants.{Cut, Status}

-- nothing cuts it short
abbrev pub IsWhole : End → Type 0
IsWhole (Status status) = ⊤
IsWhole (Cut fault) = ⊥

-- Plans where they are wrong; of threads that were started, that one was refused, or that what they left doesn't fit
-- together; of a search, that there is no such end or nothing is told of its start; and whatever it is, that memory was refused
abbrev pub IsMakingFault : (Misplanned Threads : Type 0) (Unexplored : ExploreRefusal → Type 0) → Fault → Type 0
IsMakingFault Misplanned Threads Unexplored faults.Plans = Misplanned
IsMakingFault Misplanned Threads Unexplored (faults.Unlike rank place) = Threads
IsMakingFault Misplanned Threads Unexplored faults.Spawn = Threads
IsMakingFault Misplanned Threads Unexplored (faults.Explore refusal) = Unexplored refusal
IsMakingFault Misplanned Threads Unexplored faults.Memory = ⊤
IsMakingFault Misplanned Threads Unexplored other = ⊥

-- of a run
abbrev pub IsRunFault : (Misplanned Threads : Type 0) → Fault → Type 0
IsRunFault Misplanned Threads fault = IsMakingFault Misplanned Threads (λ _. ⊥) fault
