use Rattle.std.proofs.Common.{arith}
use Rattle.cl_explore.proofs.Winding.{run_length}
use Rattle.cl_explore.proofs.runs.turns_in.Goals as goal

pub returns : goal.returns
returns c =
    let many = run_length c.args.run.now in
    omega (arith, many, c.stamp.ensures, c.saturating_sub.ensures, c.saturating_add.ensures)
