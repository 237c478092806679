use Rattle.cl_threads.proofs.pace.Pace.wait.Goals as goal

pub returns-then-number-reach : goal.returns-then-number-reach
returns-then-number-reach c = λ _. (c.reach.ensures c.args.number c.ranges.number.fits).0 c.if-number-reach.true
