use Rattle.std.proofs.Common.{◌≡◌, ◌++◌, take}
use Rattle.std.specs.List.{flat_map}
use Rattle.rvmc_picture.specs.Below.{padded_hex}
use Rattle.rvmc_page.proofs.safe.put_bytes.Given as goal

-- those so far
abbrev pub invariant-loop-byte : goal.invariant-loop-byte
invariant-loop-byte l = l.text.items ≡ l.fn.text.items ++ flat_map (padded_hex 2) (take l.byte-index l.bytes)
