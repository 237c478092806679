use Rattle.std.proofs.Common.{◌++◌, ◌∷◌, []}
use Rattle.rv_asm_tokens.specs.TokenView.{lexeme_of}
use Rattle.rv_asm_tokens.proofs.Kept.{behind_more}
use Rattle.rv_asm_tokens.proofs.scanning.check_tokens.Goals as goal

pub loop-first-smaller : goal.loop-first-smaller
loop-first-smaller c = (rw c.in-Some.is at c.in_ok-first.ensures.shorter)

pub loop-first-preserved : goal.loop-first-preserved
loop-first-preserved c =
    let begins = rw c.in-Some.is at c.in_ok-first.ensures.begins in
    let done = c.loop-first.invariant.0 in
    (done ++ lexeme_of c.in-Some.first.token ∷ [], behind_more done (lexeme_of c.in-Some.first.token) _ _ _ c.loop-first.invariant.1 begins)
