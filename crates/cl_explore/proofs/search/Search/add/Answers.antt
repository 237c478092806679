use Rattle.std.proofs.Common.{arith}
use Rattle.cl_explore.proofs.Covers.{adds_new}
use Rattle.cl_explore.proofs.search.Search.add.Goals as goal

pub returns-clause-adds : goal.returns-clause-adds
returns-clause-adds c =
    let old = c.args.self.now.nodes in
    adds_new c.args.course.now.order.now old.items c.push.new.self.items c.args.parent c.len-number.result
    c.args.standing.now c.in_ok-kept.kept c.in_ok-cluster.cluster (omega (arith, c.len-number.ensures, old.ok.0))
    c.in_ok-cluster.ensures c.in_ok-kept.ensures c.in_ok-push.ensures.items
