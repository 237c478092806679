use Rattle.cl_explore.specs.Kept.{HaveStayed}
use Rattle.cl_explore.proofs.kept.KeptNode.bring_back_others.Given as goal

abbrev pub invariant-loop-other : goal.invariant-loop-other
invariant-loop-other l = HaveStayed l.self l.fn.standing → HaveStayed l.self l.standing
