use Rattle.std.proofs.Common.{◌≤◌}
use Rattle.std.specs.Prelude.{max}
use Rattle.rvmc_list.specs.Keeping.{AreKept}
use Rattle.rvmc_list.specs.Pieces.{IsWithin}
use Rattle.rvmc_list.proofs.Written.{AreWritten}
use Rattle.rvmc_list.proofs.listing.put_steps.Given as goal

-- the steps so far are put, and a front of their text is written; where the list ends before it begins there are none
abbrev pub invariant-loop-n : goal.invariant-loop-n
invariant-loop-n g l = record {
  written : AreWritten l.image l.steps l.wanted l.n l.state l.phases l.begun l.text.items (g.W.Write.contents l.fn.out)
      (g.W.Write.contents l.out);
  within : IsWithin l.n l.begun;
  kept : AreKept l.image.symbols l.texts;
  most : l.n ≤ max l.wanted.from l.to;
}
