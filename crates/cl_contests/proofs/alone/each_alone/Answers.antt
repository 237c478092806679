use Rattle.cl_contests.specs.Kept.{search_of}
use Rattle.cl_contests.proofs.Leading.{alone_more, alone_stays}
use Rattle.cl_contests.proofs.alone.each_alone.Goals as goal

pub loop-rank-init : goal.loop-rank-init
loop-rank-init c =
    alone_stays (search_of c.args.patterns.now.may_wait c.args.patterns.now.kept.items) c.args.standing.now

pub loop-rank-preserved : goal.loop-rank-preserved
loop-rank-preserved c =
    alone_more (search_of c.args.patterns.now.may_wait c.args.patterns.now.kept.items) c.args.standing.now c.loop-rank.standing c.go_unless_spent.new.standing
    c.loop-rank.invariant c.in_ok-more.ensures
