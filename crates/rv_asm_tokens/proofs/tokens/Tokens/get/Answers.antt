use Rattle.std.proofs.Common.{◌∙◌, List, ap, arith, sym}
use Rattle.std.specs.Prelude.{slice_get}
use Rattle.rv_asm_tokens.specs.Lexeme.{Lexeme}
use Rattle.rv_asm_tokens.proofs.Kept.{kept_behind}
use Rattle.rv_asm_tokens.proofs.tokens.Tokens.get.Goals as goal

pub returns-then-before-self : goal.returns-then-before-self
returns-then-before-self c =
    let tokens = c.self.inside in
    sym (kept_behind tokens.kept tokens.at tokens.end c.args.before tokens.bytes.now _ (omega arith) (omega arith)) ∙ ap (λ (ts : List Lexeme). slice_get ts c.args.before) c.self.view_is
