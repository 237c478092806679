use Rattle.cl_explore.proofs.Winding.{run_back}
use Rattle.cl_explore.proofs.runs.Runs.go_back.Goals as goal

pub loop-run-preserved : goal.loop-run-preserved
loop-run-preserved c =
    run_back c.loop-run.left.now c.in-Some.before.now c.in-Some.run'.now c.loop-run.back.items c.unwind.new.back.items _
    c.in-Some.ensures.cases.0 c.in_ok-unwind.ensures c.loop-run.invariant
