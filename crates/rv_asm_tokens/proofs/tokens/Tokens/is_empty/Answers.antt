use Rattle.std.proofs.Common.{◌≡◌, ◌∙◌, ◌==◌, List, ap, arith, false, length, nat_eq}
use Rattle.std.proofs.lemmas.Bool.{ne_eqb}
use Rattle.rv_asm_tokens.specs.declared.token.Token.TheVariants.{Comma}
use Rattle.rv_asm_tokens.specs.Lexeme.{Lexeme}
use Rattle.rv_asm_tokens.proofs.Kept.{some_kept}
use Rattle.rv_asm_tokens.proofs.tokens.Tokens.is_empty.Goals as goal

pub returns-else-self : goal.returns-else-self
returns-else-self c =
    let tokens = c.self.inside in
    let differ : nat_eq tokens.at tokens.end ≡ false = ne_eqb tokens.at tokens.end c.if-self.false in
    differ ∙ some_kept tokens.kept tokens.at tokens.end tokens.bytes.now Comma (omega (arith, c.if-self.false)) (omega arith) ∙ ap (λ (ts : List Lexeme). length ts == 0) c.self.view_is
