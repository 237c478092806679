use Rattle.std.proofs.Common.{arith, refl, ◌∙◌}
use Rattle.std.proofs.lemmas.Bool.{iff_false}
use Rattle.std.proofs.lemmas.Option.{slice_get_read}
use Rattle.cl_state.specs.Room.{rank_of}
use Rattle.cl_moves.specs.Ends.{AreResting}
use Rattle.cl_moves.proofs.Resting.{below_all, below_on, end_rests, many_ranks, rests_end}
use Rattle.cl_moves.proofs.ends.is_end.Goals as goal

pub returns-then-count-gt255 : goal.returns-then-count-gt255
returns-then-count-gt255 c = λ image cluster stands few.
    let state = c.args.state.now in
    let many = many_ranks image state cluster stands c.args.order.now c.requires in (
      λ no. absurd (cc),
      λ end. absurd (omega (arith, few, many, c.if-count-gt255.true, c.len-count.ensures, state.ranks.ok.0)),
    )

pub returns-then-not-branch : goal.returns-then-not-branch
returns-then-not-branch c = λ image cluster stands few.
    let state = c.args.state.now in
    let own = c.index-own.result.now in
    let at = slice_get_read state.ranks.items c.len-count.result c.loop-rank.rank own
    (c.len-count.ensures ∙ state.ranks.ok.0) c.loop-rank-test.true c.index-own.ensures in (
      λ no. absurd (cc),
      λ end. absurd (iff_false (c.in_ok-are_resting.ensures image cluster stands) c.if-not-branch.true
          (end_rests image state cluster stands c.args.order.now c.requires end c.loop-rank.rank own at)),
    )

pub loop-rank-preserved : goal.loop-rank-preserved
loop-rank-preserved c = λ image cluster stands.
    let state = c.args.state.now in
    let own = c.index-own.result.now in
    let at = slice_get_read state.ranks.items c.len-count.result c.loop-rank.rank own
    (c.len-count.ensures ∙ state.ranks.ok.0) c.loop-rank-test.true c.index-own.ensures in
    below_on (λ r x. AreResting cluster r (rank_of x) c.args.order.now) state.ranks.items c.loop-rank.rank
    (c.loop-rank.invariant image cluster stands) own at
    ((c.in_ok-are_resting.ensures image cluster stands).0 c.if-not-branch.false)

pub returns : goal.returns
returns c = λ image cluster stands few.
    let state = c.args.state.now in (
      λ its. rests_end image state cluster stands c.args.order.now c.requires
          (below_all (λ r x. AreResting cluster r (rank_of x) c.args.order.now) state.ranks.items c.loop-rank.rank
          (c.loop-rank.invariant image cluster stands)
          (omega (arith, c.loop-rank-test.false, c.len-count.ensures, state.ranks.ok.0))),
      λ end. refl,
    )
