-- More steps are read behind those that were done, whichever these are.
use Rattle.std.proofs.Common.{◌≡◌, ◌≤◌, ◌-◌, ◌+◌, ◌++◌, List, length}
use Rattle.cl_machine.specs.declared.steps.Step.{Step}
use Rattle.cl_text.specs.ReadingAnswers.{read_on}
use Rattle.cl_check.proofs.texts.read_out.Given as goal

abbrev pub invariant-loop-done : goal.invariant-loop-done
invariant-loop-done l = record {
  within : l.done ≤ l.count;
  more : List Step;
  number : l.from + length more ≡ l.done;
  same : (done : List Step) → length done ≡ l.from
      → read_on l.opened.total l.opened.image l.count (done ++ more) l.rest
      ≡ read_on l.opened.total l.opened.image l.count done l.bytes;
}

abbrev pub decreases-loop-done : goal.decreases-loop-done
decreases-loop-done l = l.count - l.done
