use Rattle.std.proofs.Common.{subst}
use Rattle.cl_contests.specs.Turns.{GoesInVain}
use Rattle.cl_contests.proofs.Leading.{vain_more, vain_stays}
use Rattle.cl_contests.proofs.polls.poll_all.Goals as goal

pub loop-rank-init : goal.loop-rank-init
loop-rank-init c = vain_stays c.args.standing.now

pub loop-rank-preserved : goal.loop-rank-preserved
loop-rank-preserved c =
    let mid = c.loop-rank.standing in
    let new = c.poll_once.new.standing in
    vain_more c.args.standing.now mid new c.loop-rank.invariant
    (subst (λ b. GoesInVain mid new b) c.if-not-branch.false c.in_ok-poll_once.ensures)
