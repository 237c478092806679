use Rattle.std.proofs.Common.{arith, suc}
use Rattle.cl_lines.proofs.Due.{is_due, without_zero}
use Rattle.cl_lines.proofs.progress.is_due.Goals as goal

pub loop-rest-preserved : goal.loop-rest-preserved
loop-rest-preserved c =
    let so_far = c.loop-rest.invariant in
    (suc so_far.0, without_zero c.args.states c.loop-rest.rest so_far.0 c.if-rest-eq0.true so_far.1)

pub returns : goal.returns
returns c =
    let so_far = c.loop-rest.invariant in
    λ _. is_due c.args.states c.loop-rest.rest so_far.0 so_far.1 c.if-rest-lt100.false c.if-rest-ge1000.false
    (omega (arith, c.if-rest-gt0.false))
