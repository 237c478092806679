use Rattle.std.proofs.Common.{◌∙◌, arith}
use Rattle.std.proofs.lemmas.List.{length-set}
use Rattle.rv_asm_tokens.specs.TokenView.{lexeme_of}
use Rattle.rv_asm_tokens.proofs.Kept.{behind_more, one_more}
use Rattle.rv_asm_tokens.proofs.tokens.Tokens.of_line.Goals as goal

pub loop-end-preserved : goal.loop-end-preserved
loop-end-preserved c =
    let first = c.in-Some.first in
    let begins = rw c.in-Some.is at c.in_ok-first.ensures.begins in
    (omega arith, length-set c.loop-end.kept c.loop-end.end first.token ∙ c.loop-end.invariant.1, rw (one_more c.loop-end.kept c.loop-end.end first.token (omega arith)) (behind_more _ (lexeme_of first.token) _ _ _ c.loop-end.invariant.2 begins))
