use Rattle.std.proofs.Common.{arith, sym, subst, ◌∙◌, ◌+◌}
use Rattle.std.proofs.lemmas.Option.{slice_get_read}
use Rattle.cl_contests.specs.Lone.{AreStillBelow}
use Rattle.cl_contests.proofs.Others.{lone_on, lone_told, none_yet, still_on}
use Rattle.cl_contests.proofs.lone.lone_rank.Goals as goal
use Rattle.cl_contests.proofs.lone.lone_rank.Goals.{then-not-branch+else-is_some, else-not-branch}

pub loop-rank-preserved : goal.loop-rank-preserved
loop-rank-preserved c =
    let standing = c.args.standing.now in
    let ranks = standing.cluster.ranks in
    let own = c.index-own.result.now in
    let at = slice_get_read ranks.items c.len-count.result c.loop-rank.rank own (c.len-count.ensures ∙ ranks.ok.0)
    c.loop-rank-test.true c.index-own.ensures in
    elim c.if-not-branch.branch [
      | then-not-branch+else-is_some w ↦ subst (λ o. AreStillBelow standing o (c.loop-rank.rank + 1)) (sym w.lone-is)
          (lone_on standing c.loop-rank.rank own at
          (subst (λ o. AreStillBelow standing o c.loop-rank.rank)
          (none_yet c.loop-rank.lone (sym w.is_some.ensures ∙ w.if-is_some.false)) c.loop-rank.invariant))
      | else-not-branch w ↦ subst (λ o. AreStillBelow standing o (c.loop-rank.rank + 1)) (sym w.lone-is)
          (still_on standing c.loop-rank.rank c.loop-rank.lone c.loop-rank.invariant own at
          (c.in_ok-is_still.ensures w.if-not-branch.false))
    ]

pub returns : goal.returns
returns c =
    let ranks = c.args.standing.now.cluster.ranks in
    lone_told c.args.standing.now c.loop-rank.rank c.loop-rank.lone c.loop-rank.invariant
    (omega (arith, c.loop-rank-test.false, c.len-count.ensures, ranks.ok.0))
