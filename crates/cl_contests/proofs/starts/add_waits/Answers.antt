use Rattle.std.proofs.Common.{arith, ap, ◌∙◌, length}
use Rattle.mp_match.specs.Board.{Board}
use Rattle.cl_moves.proofs.Resting.{below_all}
use Rattle.cl_contests.proofs.Starting.{MayWait, all_wait, still_waits, wait_more}
use Rattle.cl_contests.proofs.starts.add_waits.Goals as goal

pub loop-line-preserved : goal.loop-line-preserved
loop-line-preserved c =
    let lines = c.args.whole.now.board.lines in
    let before = c.loop-line.patterns.kept.items in
    let after = c.add_wait.new.patterns.kept.items in
    let are = c.lines-line-items.ensures.lines ∙ ap (λ (b : Board). b.lines) c.board.ensures in
    record {
      below = wait_more after lines c.loop-line.line-index
          (λ place low line at. still_waits before after line c.in_ok-add_wait.ensures.keeps
          (c.loop-line.invariant.below place low line at)) _
          c.lines-line-items.result.now are (let many = ap (λ xs. length xs) are in omega (arith, c.loop-line-test.true, many))
          c.in_ok-add_wait.ensures.waits;
      keeps = λ r wanted has. c.in_ok-add_wait.ensures.keeps r wanted (c.loop-line.invariant.keeps r wanted has);
      still = c.in_ok-add_wait.ensures.still ∙ c.loop-line.invariant.still;
    }

pub returns-clause-waits : goal.returns-clause-waits
returns-clause-waits c =
    let kept = c.loop-line.patterns.kept.items in
    let lines = c.args.whole.now.board.lines in
    let are = c.lines-line-items.ensures.lines ∙ ap (λ (b : Board). b.lines) c.board.ensures in
    all_wait kept c.args.whole.now
    (below_all (λ place line. MayWait kept line) lines c.loop-line.line-index c.loop-line.invariant.below
    (let many = ap (λ xs. length xs) are in omega (arith, c.loop-line-test.false, many)))
