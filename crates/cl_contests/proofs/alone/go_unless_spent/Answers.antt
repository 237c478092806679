use Rattle.cl_contests.specs.Kept.{search_of}
use Rattle.cl_contests.proofs.Leading.{alone_stays}
use Rattle.cl_contests.proofs.alone.go_unless_spent.Goals as goal

pub returns-then-has : goal.returns-then-has
returns-then-has c =
    alone_stays (search_of c.args.patterns.now.may_wait c.args.patterns.now.kept.items) c.args.standing.now
