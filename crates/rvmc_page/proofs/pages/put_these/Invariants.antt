use Rattle.std.proofs.Common.{◌≡◌, ◌++◌, take}
use Rattle.std.specs.List.{flat_map}
use Rattle.rvmc_page.specs.Pages.{part_lines}
use Rattle.rvmc_page.proofs.pages.put_these.Given as goal

-- those so far
abbrev pub invariant-loop-part : goal.invariant-loop-part
invariant-loop-part l =
    l.text.items ≡ l.fn.text.items ++ flat_map (part_lines l.image l.page) (take l.part-index l.parts)
