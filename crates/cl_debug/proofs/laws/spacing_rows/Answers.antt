use Rattle.cl_debug.proofs.OneStop.{spacing_rows}
use Rattle.cl_debug.proofs.laws.spacing_rows.Goals as goal

pub returns : goal.returns
returns c = spacing_rows
