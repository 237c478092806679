-- Where runs can still end, and where none does.
use Rattle.std.specs.Prelude.{ℕ, List}
use Rattle.cl_order_laws.specs.Closed.{IsEnd, Node, Plans}
use Rattle.cl_order_laws.specs.Sure.{GoesOn}

-- some turns by the plans lead from the one to the other, whatever their stamps
abbrev pub IsAfter : Plans → Node → Node → Type 0
IsAfter plans old new = (rs : List ℕ) × GoesOn plans rs old new

-- whatever turns are taken from here, somebody can go on after them
abbrev pub NeverEnds : Plans → Node → Type 0
NeverEnds plans here = (there : Node) → IsAfter plans here there → ¬ IsEnd plans there.cluster

-- some turns lead from here to where nobody goes on
abbrev pub MayEnd : Plans → Node → Type 0
MayEnd plans here = (there : Node) × IsAfter plans here there × IsEnd plans there.cluster
