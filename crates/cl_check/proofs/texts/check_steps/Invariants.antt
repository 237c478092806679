-- So many steps are done, and what is read of the rest is what all is read as.
use Rattle.std.proofs.Common.{◌-◌}
use Rattle.cl_check.specs.Texts.{IsCheckedTo}
use Rattle.cl_check.proofs.texts.check_steps.Given as goal

abbrev pub invariant-loop-done : goal.invariant-loop-done
invariant-loop-done l =
    IsCheckedTo l.opened.total l.opened.image l.count l.opened.steps.now l.done l.last l.rest l.state

abbrev pub decreases-loop-done : goal.decreases-loop-done
decreases-loop-done l = l.count - l.done
