-- How the loop that writes the communicators stands before each turn: those before this one are written.
use Rattle.std.proofs.Common.{◌≡◌, ◌++◌, take}
use Rattle.std.specs.List.{flat_map}
use Rattle.rv_image.specs.Text.{comm_text}
use Rattle.rv_image.proofs.writing.put_comms.Given as goal

abbrev pub invariant-loop-members : goal.invariant-loop-members
invariant-loop-members l = l.out.items ≡ l.fn.out.items ++ flat_map comm_text (take l.members-index l.comms)
