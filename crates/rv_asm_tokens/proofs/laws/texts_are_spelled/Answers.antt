use Rattle.rv_asm_tokens.proofs.Quoting.{text_means}
use Rattle.rv_asm_tokens.proofs.laws.texts_are_spelled.Goals as goal

pub returns : goal.returns
returns c = λ raw bytes. text_means bytes raw
