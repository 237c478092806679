use Rattle.std.proofs.Common.{◌≡◌, ◌++◌, take}
use Rattle.std.specs.List.{flat_map}
use Rattle.rvmc_page.specs.Steps.{changed_byte}
use Rattle.rvmc_page.proofs.steps.put_memory_bytes.Given as goal

-- those so far
abbrev pub invariant-loop-edit : goal.invariant-loop-edit
invariant-loop-edit l = l.text.items ≡ l.fn.text.items ++ flat_map changed_byte (take l.edit-index l.edits)
