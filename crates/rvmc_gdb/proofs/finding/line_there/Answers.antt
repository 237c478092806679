use Rattle.rvmc_gdb.proofs.Methods.{line_none, line_some}
use Rattle.rvmc_gdb.proofs.finding.line_there.Goals as goal

pub returns-in-Some-clause-line : goal.returns-in-Some-clause-line
returns-in-Some-clause-line c =
    line_some _ _ c.args.who c.in_ok-found.found c.in-Some.line c.in_ok-go.ensures c.in-Some.is c.in_ok-found.ensures

pub returns-in-None-clause-line : goal.returns-in-None-clause-line
returns-in-None-clause-line c =
    line_none _ _ c.args.who c.in_ok-found.found _ c.in_ok-go.ensures c.in-None.is c.in_ok-found.ensures c.new.ensures.items
