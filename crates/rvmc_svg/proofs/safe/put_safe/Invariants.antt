use Rattle.std.proofs.Common.{◌≡◌, ◌++◌, take}
use Rattle.std.specs.List.{flat_map}
use Rattle.rvmc_svg.specs.Adding.{safe_one}
use Rattle.rvmc_svg.proofs.safe.put_safe.Given as goal

-- those so far
abbrev pub invariant-loop-byte : goal.invariant-loop-byte
invariant-loop-byte l = l.text.items ≡ l.fn.text.items ++ flat_map safe_one (take l.byte-index l.bytes)
