use Rattle.std.proofs.Common.{◌≤◌, ◌-◌}
use Rattle.std.specs.Prelude.{max}
use Rattle.rvmc_page.specs.Written.{AreWritten, view_to}
use Rattle.rvmc_page.proofs.writing.put_steps.Given as goal

-- the changes of the steps so far are put, and a front of the text is written
abbrev pub invariant-loop-place : goal.invariant-loop-place
invariant-loop-place g l = record {
  written : AreWritten l.image l.steps (view_to l.page.from l.to) l.page l.place l.state l.text.items
      (g.W.Write.contents l.fn.out) (g.W.Write.contents l.out);
  least : l.page.from ≤ l.place;
  most : l.place ≤ max l.page.from l.to;
}

abbrev pub decreases-loop-place : goal.decreases-loop-place
decreases-loop-place g l = l.to - l.place
