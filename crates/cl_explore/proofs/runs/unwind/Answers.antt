use Rattle.cl_explore.proofs.Winding.{one_wound}
use Rattle.cl_explore.proofs.runs.unwind.Goals as goal

pub loop-stamp-preserved : goal.loop-stamp-preserved
loop-stamp-preserved c =
    one_wound c.args.run.now.turn c.in_ok-at_stamp.field-0 c.loop-stamp.stamp c.stamp-first.result c.loop-stamp.back.items
    c.push.new.self.items _ c.stamp-first.ensures c.loop-stamp-test.true c.in_ok-at_stamp.ensures
    c.in_ok-push.ensures.items c.loop-stamp.invariant
