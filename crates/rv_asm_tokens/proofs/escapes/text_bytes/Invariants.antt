use Rattle.std.proofs.Common.{◌≡◌, ◌++◌, length, false}
use Rattle.rv_asm_tokens.specs.Escapes.{text_from}
use Rattle.rv_asm_tokens.proofs.escapes.text_bytes.Given as goal

abbrev pub invariant-loop-rest : goal.invariant-loop-rest
invariant-loop-rest l = l.done.items ++ text_from l.escaped l.rest ≡ text_from false l.raw

abbrev pub decreases-loop-rest : goal.decreases-loop-rest
decreases-loop-rest l = length l.rest
