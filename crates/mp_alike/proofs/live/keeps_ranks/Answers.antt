use Rattle.std.proofs.Common.{ℕ, List, length, arith, refl, sym, ap, ◌∙◌}
use Rattle.std.proofs.lemmas.Option.{slice_get_within}
use Rattle.mp_match.specs.declared.posts.Line.{Line}
use Rattle.mp_alike.specs.InnerLive.{IsLive, KeepsRank}
use Rattle.mp_alike.proofs.live.keeps_ranks.Goals as goal
use borrow.Author.Count.{below_more}

pub loop-place-preserved : goal.loop-place-preserved
loop-place-preserved c =
    below_more (λ k. (line : Line) → IsLive c.args.board.now k line → (behind : ℕ)
    → KeepsRank c.args.to.now c.args.board.now k line behind) c.loop-place.place
    c.loop-place.invariant (c.keeps_rank_at.ensures.0 c.if-not-keeps_rank_at.false)

pub returns-then-not-keeps_rank_at : goal.returns-then-not-keeps_rank_at
returns-then-not-keeps_rank_at c = (
  λ is. absurd (cc),
  λ keeps. sym c.if-not-keeps_rank_at.true ∙ c.keeps_rank_at.ensures.1 (keeps c.loop-place.place),
)

pub returns : goal.returns
returns c = (
  λ is place line there.
      (let within = slice_get_within c.args.board.now.lines place _ there.there in
      let same = ap (λ (xs : List Line). length xs) c.lines-place-end.ensures.lines in
      c.loop-place.invariant place (omega (arith, within, same, c.loop-place-test.false)) line there),
  λ keeps. refl,
)
