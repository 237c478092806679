use Rattle.std.proofs.Common.{◌≡◌, ◌++◌, take}
use Rattle.std.specs.List.{flat_map}
use Rattle.rvmc_page.specs.Steps.{changed_register}
use Rattle.rvmc_page.proofs.steps.put_registers.Given as goal

-- those so far
abbrev pub invariant-loop-edit : goal.invariant-loop-edit
invariant-loop-edit l = l.text.items ≡ l.fn.text.items ++ flat_map changed_register (take l.edit-index l.edits)
