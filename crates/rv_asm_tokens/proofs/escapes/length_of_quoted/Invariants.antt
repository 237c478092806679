use Rattle.std.proofs.Common.{◌≡◌, drop, false}
use Rattle.rv_asm_tokens.specs.Escapes.{quoted_length}
use Rattle.rv_asm_tokens.proofs.escapes.length_of_quoted.Given as goal

abbrev pub invariant-loop-i : goal.invariant-loop-i
invariant-loop-i l = quoted_length l.escaped l.i (drop l.i l.bytes) ≡ quoted_length false 0 l.bytes
