use Rattle.std.proofs.Common.{arith, ◌∙◌}
use Rattle.std.proofs.lemmas.Option.{slice_get_read}
use Rattle.cl_moves.proofs.Resting.{below_all, below_on}
use Rattle.cl_contests.specs.Kept.{search_of}
use Rattle.cl_contests.specs.Turns.{AsksWithin}
use Rattle.cl_contests.proofs.Leading.{tells_within}
use Rattle.cl_contests.proofs.first.all_within.Goals as goal
use Rattle.cl_contests.proofs.first.all_within.Goals.{else-not-branch, then-not-branch}

pub loop-rank-preserved : goal.loop-rank-preserved
loop-rank-preserved c =
    let may_wait = c.args.patterns.now.may_wait in
    let kept = c.args.patterns.now.kept.items in
    let ranks = c.args.standing.now.cluster.ranks in
    let own = c.index-own.result.now in
    let at = slice_get_read ranks.items c.len-count.result c.loop-rank.rank own (c.len-count.ensures ∙ ranks.ok.0)
    c.loop-rank-test.true c.index-own.ensures in
    elim c.if-not-branch.branch [
      | then-not-branch w ↦ λ yes. absurd (cc)
      | else-not-branch w ↦ λ yes.
          below_on (λ r x. AsksWithin (search_of may_wait kept) r x) ranks.items c.loop-rank.rank (c.loop-rank.invariant (cc))
          own at
          (c.in_ok-asks_within.ensures w.if-not-branch.false)
    ]

pub returns : goal.returns
returns c = λ yes.
    let may_wait = c.args.patterns.now.may_wait in
    let kept = c.args.patterns.now.kept.items in
    let standing = c.args.standing.now in
    let ranks = standing.cluster.ranks in
    tells_within may_wait kept standing
    (below_all (λ r own. AsksWithin (search_of may_wait kept) r own) ranks.items c.loop-rank.rank (c.loop-rank.invariant yes)
    (omega (arith, c.loop-rank-test.false, c.len-count.ensures, ranks.ok.0)))
