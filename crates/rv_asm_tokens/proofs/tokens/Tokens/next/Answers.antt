use Rattle.std.proofs.Common.{◌∙◌, arith, sym}
use Rattle.rv_asm_tokens.proofs.Kept.{first_kept}
use Rattle.rv_asm_tokens.proofs.tokens.Tokens.next.Goals as goal

pub returns-then-self : goal.returns-then-self
returns-then-self c =
    let tokens = c.self.inside in
    sym c.self.view_is ∙ first_kept tokens.kept tokens.at tokens.end tokens.bytes.now _ (omega arith) (omega arith)
