use Rattle.std.proofs.Common.{◌≡◌, ◌≤◌, ◌-◌, take}
use Rattle.rvmc_changes.specs.Edits.{edits_from}
use Rattle.rvmc_changes.proofs.making.byte_edits.Given as goal

-- those of the pieces so far
abbrev pub invariant-loop-done : goal.invariant-loop-done
invariant-loop-done l = record {
  edits : l.edits.items ≡ edits_from l.address (take l.done l.olds) (take l.done l.news);
  most : l.done ≤ l.len;
}

abbrev pub decreases-loop-done : goal.decreases-loop-done
decreases-loop-done l = l.len - l.done
