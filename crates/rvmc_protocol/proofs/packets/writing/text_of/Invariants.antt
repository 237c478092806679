use Rattle.std.proofs.Common.{◌≡◌, take}
use Rattle.std.specs.List.{flat_map}
use Rattle.rvmc_protocol.specs.Packets.Texts.{escaped}
use Rattle.rvmc_protocol.proofs.packets.writing.text_of.Given as goal

-- the text so far
abbrev pub invariant-loop-byte : goal.invariant-loop-byte
invariant-loop-byte l = l.text.items ≡ flat_map escaped (take l.byte-index l.payload)
