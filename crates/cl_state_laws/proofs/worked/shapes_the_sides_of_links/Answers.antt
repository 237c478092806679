use Rattle.cl_state_laws.proofs.WorkedPartitions as worked
use Rattle.cl_state_laws.proofs.worked.shapes_the_sides_of_links.Goals as goal

pub returns : goal.returns
returns c = worked.link
