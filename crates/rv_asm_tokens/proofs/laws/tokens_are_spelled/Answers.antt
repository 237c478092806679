use Rattle.rv_asm_tokens.proofs.Lines.{tokens_are_spelled}
use Rattle.rv_asm_tokens.proofs.laws.tokens_are_spelled.Goals as goal

pub returns : goal.returns
returns c = tokens_are_spelled
