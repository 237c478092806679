use Rattle.std.proofs.Common.{◌≡◌, ◌++◌, take}
use Rattle.std.specs.List.{flat_map}
use Rattle.rvmc_page.specs.Starts.{hart_start_text}
use Rattle.rvmc_page.proofs.starts.put_harts.Given as goal

-- those so far
abbrev pub invariant-loop-hart : goal.invariant-loop-hart
invariant-loop-hart l = l.text.items ≡ l.fn.text.items ++ flat_map hart_start_text (take l.hart-index l.harts)
