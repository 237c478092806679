use Rattle.std.proofs.Common.{◌&&◌, ap, sym, ◌∙◌, arith}
use Rattle.std.proofs.lemmas.Bool.{le-ltb}
use Rattle.cl_rest_laws.specs.Rests.{rests}
use Rattle.cl_rests.proofs.Found.{past_rests}
use Rattle.cl_rests.proofs.Members.{all_ranks, one_rank}
use Rattle.cl_rests.proofs.resting.resting_ranks.Goals as goal

pub loop-rank-init : goal.loop-rank-init
loop-rank-init c = λ image here stands r.
    c.none-ranks.ensures r ∙ sym (ap (λ t. t && rests here.cluster r 0) (le-ltb r 0 (omega arith)))

pub loop-rank-preserved : goal.loop-rank-preserved
loop-rank-preserved c = λ image here stands.
    one_rank (λ r. rests here.cluster r 0) c.loop-rank.ranks c.with_if-ranks.result c.loop-rank.rank c.rests.result
    c.loop-rank-test.true (c.rests.ensures image here stands) (c.loop-rank.invariant image here stands) c.with_if-ranks.ensures

pub returns : goal.returns
returns c = λ image here stands few.
    all_ranks (λ r. rests here.cluster r 0) c.loop-rank.ranks c.loop-rank.rank c.loop-rank-test.false
    (c.loop-rank.invariant image here stands) (past_rests here.cluster few)
