use Rattle.std.proofs.Common.{◌+◌, [], drop, Some, None, arith, sym, ◌∙◌}
use Rattle.std.proofs.lemmas.List.{drop-drop}
use Rattle.std.proofs.lemmas.Result.{err_from_is_err_and}
use Rattle.rv_asm_tokens.specs.TokenView.{lexeme_of}
use Rattle.rv_asm_tokens.specs.Scan.{tokens_of}
use Rattle.rv_asm_tokens.proofs.Steps.{token_fails, token_first, token_none, token_goes, tokens_end}
use Rattle.rv_asm_tokens.proofs.scanning.first_token.Goals as goal

pub returns-in_err-found_at-clause-begins : goal.returns-in_err-found_at-clause-begins
returns-in_err-found_at-clause-begins c =
    let p = err_from_is_err_and c.from_residual.result c.from_residual.ensures.1 in
    let bytes = c.args.bytes.now in
    rw (p.1, p.2) (token_fails c.in_err-found_at.field-0.0 c.loop-at.at [] bytes (tokens_of bytes) c.loop-at-test.true (rw (c.behind-here.ensures.value, c.behind-after.ensures.value) at c.in_err-found_at.ensures.value) c.loop-at.invariant.same)

pub returns-in-Comment-clause-begins : goal.returns-in-Comment-clause-begins
returns-in-Comment-clause-begins c =
    let bytes = c.args.bytes.now in
    token_none c.loop-at.at [] bytes (tokens_of bytes) c.loop-at-test.true (rw (c.in-Comment.is, c.behind-here.ensures.value, c.behind-after.ensures.value) at c.in_ok-found_at.ensures.value) c.loop-at.invariant.same

pub loop-at-preserved : goal.loop-at-preserved
loop-at-preserved c =
    let bytes = c.args.bytes.now in
    record {
      inside = omega arith;
      same = token_goes c.loop-at.at [] bytes None 0 (c.loop-at.at + 1) (tokens_of bytes) (omega arith) c.loop-at-test.true (rw (c.in-Blank.is, c.behind-here.ensures.value, c.behind-after.ensures.value) at c.in_ok-found_at.ensures.value) c.loop-at.invariant.same;
    }

pub returns-in-Piece-clause-begins : goal.returns-in-Piece-clause-begins
returns-in-Piece-clause-begins c =
    let bytes = c.args.bytes.now in
    let t = lexeme_of c.in-Piece.token in
    let next = c.loop-at.at + 1 + c.in-Piece.more in
    let goes = token_goes c.loop-at.at [] bytes (Some t) c.in-Piece.more next (tokens_of bytes) (omega arith) c.loop-at-test.true (rw (c.in-Piece.is, c.behind-here.ensures.value, c.behind-after.ensures.value) at c.in_ok-found_at.ensures.value) c.loop-at.invariant.same in
    rw (c.behind.ensures.value, c.behind-after.ensures.value, drop-drop c.in-Piece.more (c.loop-at.at + 1) bytes) (sym goes ∙ token_first t (drop next bytes))

pub returns-clause-begins : goal.returns-clause-begins
returns-clause-begins c =
    let bytes = c.args.bytes.now in
    tokens_end c.loop-at.at [] bytes (tokens_of bytes) c.loop-at-test.false c.loop-at.invariant.same
