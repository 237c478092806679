use Rattle.std.proofs.Common.{refl}
use Rattle.rv_asm_tokens.specs.Digits.{digits_from, magnitude, with_digit}
use Rattle.rv_asm_tokens.specs.Escapes.{is_escape, quote_step, quoted_length}
use Rattle.rv_asm_tokens.specs.Scan.{front_at, tokens_from}
use Rattle.test_asm.proofs.asm_tokens.lines_have_their_tokens.Goals as goal

pub returns : goal.returns
unfolding digits_from magnitude with_digit is_escape quote_step quoted_length front_at tokens_from
returns c = refl
