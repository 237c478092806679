use Rattle.std.proofs.Common.{take}
use Rattle.cl_record.specs.Wiring.{IsWired}
use Rattle.cl_record.proofs.wiring.Wiring.of.Given as goal

abbrev pub invariant-loop-number : goal.invariant-loop-number
invariant-loop-number l = IsWired l.image.version l.image.ranks (take l.number l.image.links) l.wiring
