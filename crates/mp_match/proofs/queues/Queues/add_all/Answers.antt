use Rattle.std.proofs.Common.{◌≡◌, ◌+◌, ◌++◌, length, List, Option, [], ◌∷◌, ℕ, arith, sym, ap, ◌∙◌, append_assoc}
use Rattle.mp_match.specs.declared.posts.Line.{Line}
use Rattle.mp_match.specs.Board.{Board, board_with}
use Rattle.mp_match.specs.PostPairs.{pairs_on, posts_of}
use Rattle.mp_match.proofs.Lines.{add_length}
use Rattle.mp_match.proofs.queues.Queues.add_all.Goals as goal

lines_step : (a b : Board) (line : Line) (body : Option (List ℕ)) (rest after : List Line) → rest ≡ line ∷ after
    → b ≡ board_with a line.post body → pairs_on a.lines (posts_of rest) ≡ pairs_on b.lines (posts_of after)
lines_step a b line body rest after e f =
    ap (λ (r : List Line). pairs_on a.lines (posts_of r)) e
    ∙ ap (λ (x : Board). pairs_on x.lines (posts_of after)) (sym f)

bodies_step : (a b : Board) (line : Line) (body : Option (List ℕ)) (left more : List (Option (List ℕ)))
    → left ≡ body ∷ more → b ≡ board_with a line.post body → a.bodies ++ left ≡ b.bodies ++ more
bodies_step a b line body left more e f =
    ap (λ (r : List (Option (List ℕ))). a.bodies ++ r) e
    ∙ sym (append_assoc a.bodies (body ∷ []) more)
    ∙ ap (λ (x : Board). x.bodies ++ more) (sym f)

count_step : (a b : Board) (line : Line) (body : Option (List ℕ)) → b ≡ board_with a line.post body
    → length b.lines ≡ length a.lines + 1
count_step a b line body f = ap (λ (x : Board). length x.lines) f ∙ add_length a.lines line.post

pub loop-line-preserved : goal.loop-line-preserved
loop-line-preserved c =
    let line = c.in-Some.line.now in
    let body = c.in-Some-split_first.body.now in
    let i = c.loop-line.invariant in
    let n = count_step c.loop-line.self c.add_again.new.self line body c.in_ok-add_again.ensures in
    let r = c.in-Some.ensures.cases in
    let l = c.in-Some-split_first.ensures.cases in
    record {
      lines = i.lines
          ∙ lines_step c.loop-line.self c.add_again.new.self line body c.loop-line.rest.now c.in-Some.after.now r.0
          c.in_ok-add_again.ensures;
      bodies = i.bodies
          ∙ bodies_step c.loop-line.self c.add_again.new.self line body c.loop-line.left.now
          c.in-Some-split_first.more.now l.0 c.in_ok-add_again.ensures;
      few = omega (arith, n, i.few, r.1);
      even = omega (arith, i.even, r.1, l.1);
    }
