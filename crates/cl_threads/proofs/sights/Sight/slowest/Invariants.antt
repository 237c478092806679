use Rattle.cl_threads.specs.Pacing.{IsSlowest}
use Rattle.cl_threads.proofs.sights.Sight.slowest.Given as goal

abbrev pub invariant-loop-rank : goal.invariant-loop-rank
invariant-loop-rank l = IsSlowest l.self.counts l.rank l.slowest
