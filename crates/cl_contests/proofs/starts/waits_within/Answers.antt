use Rattle.std.proofs.Common.{arith, ap, ◌∙◌, length}
use Rattle.mp_match.specs.Board.{Board}
use Rattle.cl_moves.proofs.Resting.{below_all}
use Rattle.cl_contests.proofs.Starting.{MayWait, all_wait, wait_more}
use Rattle.cl_contests.proofs.starts.waits_within.Goals as goal

pub loop-line-preserved : goal.loop-line-preserved
loop-line-preserved c =
    let are = c.lines-line-items.ensures.lines ∙ ap (λ (b : Board). b.lines) c.board.ensures in
    wait_more c.args.patterns.now.kept.items c.args.whole.now.board.lines c.loop-line.line-index c.loop-line.invariant _
    c.lines-line-items.result.now are (let many = ap (λ xs. length xs) are in omega (arith, c.loop-line-test.true, many))
    (c.may_wait.ensures c.if-not-may_wait.false)

pub returns : goal.returns
returns c = λ its.
    let kept = c.args.patterns.now.kept.items in
    let lines = c.args.whole.now.board.lines in
    let are = c.lines-line-items.ensures.lines ∙ ap (λ (b : Board). b.lines) c.board.ensures in
    all_wait kept c.args.whole.now
    (below_all (λ place line. MayWait kept line) lines c.loop-line.line-index c.loop-line.invariant
    (let many = ap (λ xs. length xs) are in omega (arith, c.loop-line-test.false, many)))
