-- A run and one step more.
use Rattle.cl_machine.proofs.Tables.{run_more, run_less}
use Rattle.cl_stamp_laws.specs.Laws.{AppendLaw}

pub append : AppendLaw
append old new es e = (run_less es old new e, λ h. run_more es old h.0 new e h.1 h.2)
