-- The law of where a record ends.
use Rattle.cl_text.specs.Front.Laws.{EndLaw}
use Rattle.cl_text.proofs.Fronts.Ends as front

pub end_law : EndLaw
end_law = front.end_law
