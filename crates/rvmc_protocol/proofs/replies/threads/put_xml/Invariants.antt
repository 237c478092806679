use Rattle.std.proofs.Common.{◌≡◌, ◌++◌, take}
use Rattle.std.specs.List.{flat_map}
use Rattle.rvmc_protocol.specs.Replies.Threads.{xml_byte}
use Rattle.rvmc_protocol.proofs.replies.threads.put_xml.Given as goal

-- those so far
abbrev pub invariant-loop-byte : goal.invariant-loop-byte
invariant-loop-byte l = l.text.items ≡ l.fn.text.items ++ flat_map xml_byte (take l.byte-index l.bytes)
