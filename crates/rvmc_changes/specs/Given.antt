-- What contracts see of changes that are given.
use Rattle.std.specs.Prelude.{List, map}
use Rattle.rvmc_changes.specs.Changes.{Difference}
use Rattle.rvmc_changes.specs.declared.steps.Change.{Change}

-- of a change
abbrev pub difference_in : Change → Difference
difference_in c = record {
  rank = c.rank;
  hart = c.hart;
  old = c.old;
  new = c.new;
  registers = c.registers.items;
  bytes = c.bytes.items;
  put = c.put.items;
}

-- of changes
abbrev pub differences : List Change → List Difference
differences changes = map difference_in changes
