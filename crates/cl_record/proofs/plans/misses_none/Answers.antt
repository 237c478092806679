use Rattle.std.proofs.Common.{rules, Contains}
use borrow.Author.Count.{below_more}
use Rattle.cl_record.proofs.plans.misses_none.Goals as goal

pub loop-rank-preserved : goal.loop-rank-preserved
loop-rank-preserved c = below_more (Contains c.args.order.now) c.loop-rank.rank c.loop-rank.invariant (c.names.ensures.0 (search rules))
