use Rattle.std.proofs.Common.{◌≡◌, length}
use Rattle.rv_asm_tokens.specs.Digits.{digits_from}
use Rattle.rv_asm_tokens.proofs.digits.number_of.Given as goal

-- the digits that are left come to what all come to
abbrev pub invariant-loop-rest : goal.invariant-loop-rest
invariant-loop-rest l = digits_from l.base l.value l.rest ≡ digits_from l.base 0 l.digits

abbrev pub decreases-loop-rest : goal.decreases-loop-rest
decreases-loop-rest l = length l.rest
