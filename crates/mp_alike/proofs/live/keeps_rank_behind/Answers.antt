use Rattle.std.proofs.Common.{List, length, arith, refl, sym, ap, ◌∙◌}
use Rattle.std.proofs.lemmas.Option.{slice_get_within}
use Rattle.mp_match.specs.declared.posts.Line.{Line}
use Rattle.mp_alike.specs.InnerLive.{KeepsRank}
use Rattle.mp_alike.proofs.live.keeps_rank_behind.Goals as goal
use borrow.Author.Count.{below_more}

pub loop-behind-preserved : goal.loop-behind-preserved
loop-behind-preserved c =
    below_more (KeepsRank c.args.to.now c.args.board.now c.args.place c.args.line.now) c.loop-behind.behind
    c.loop-behind.invariant (c.keeps_rank.ensures.0 c.if-not-keeps_rank.false)

pub returns-then-not-keeps_rank : goal.returns-then-not-keeps_rank
returns-then-not-keeps_rank c = (
  λ is. absurd (cc),
  λ keeps. sym c.if-not-keeps_rank.true ∙ c.keeps_rank.ensures.1 (keeps c.loop-behind.behind),
)

pub returns : goal.returns
returns c = (
  λ is behind other before there.
      (let within = slice_get_within c.args.board.now.lines behind _ there.there in
      let same = ap (λ (xs : List Line). length xs) c.lines-behind-end.ensures.lines in
      c.loop-behind.invariant behind (omega (arith, within, same, c.loop-behind-test.false)) other before there),
  λ keeps. refl,
)
