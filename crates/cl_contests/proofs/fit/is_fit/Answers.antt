use Rattle.std.proofs.Common.{arith, subst, ◌∙◌}
use Rattle.std.proofs.lemmas.Option.{slice_get_read}
use Rattle.cl_state.specs.Room.{rank_of}
use Rattle.cl_moves.proofs.Resting.{below_all, below_on}
use Rattle.cl_contests.specs.Fits.{IsFitRank}
use Rattle.cl_reduction_laws.specs.Settled.{AreOnSides}
use Rattle.cl_contests.specs.Kept.{patterns_of, search_of}
use Rattle.cl_contests.proofs.Fits.{all_fit}
use Rattle.cl_contests.proofs.fit.is_fit.Goals as goal

pub loop-rank-preserved : goal.loop-rank-preserved
loop-rank-preserved c = λ image here stands.
    let state = c.args.standing.now.cluster in
    let own = c.index-own.result.now in
    let at = slice_get_read state.ranks.items c.len-count.result c.loop-rank.rank own
    (c.len-count.ensures ∙ state.ranks.ok.0) c.loop-rank-test.true c.index-own.ensures in
    below_on (λ r x. IsFitRank (search_of c.args.patterns.now.may_wait c.args.patterns.now.kept.items) here.cluster r (rank_of x))
    state.ranks.items
    c.loop-rank.rank (c.loop-rank.invariant image here stands) own at
    (c.in_ok-is_fit_rank.ensures c.if-not-branch.false image here stands)

pub returns : goal.returns
returns c = λ its image here stands.
    let state = c.args.standing.now.cluster in
    let may_wait = c.args.patterns.now.may_wait in
    let kept = c.args.patterns.now.kept.items in
    all_fit image c.args.standing.now here stands may_wait kept (c.has_room.ensures c.if-not-has_room.false)
    (c.waits_within.ensures c.if-not-waits_within.false)
    (subst (λ ls. AreOnSides ls (patterns_of kept)) c.links.ensures (c.are_on_sides.ensures c.if-not-are_on_sides.false))
    (below_all (λ r x. IsFitRank (search_of may_wait kept) here.cluster r (rank_of x)) state.ranks.items
    c.loop-rank.rank (c.loop-rank.invariant image here stands)
    (omega (arith, c.loop-rank-test.false, c.len-count.ensures, state.ranks.ok.0)))
