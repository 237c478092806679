use Rattle.cl_explore.proofs.Lists.{read_of}
use Rattle.cl_explore.proofs.bounds.has_longer.Goals as goal

pub returns-then-is_longer : goal.returns-then-is_longer
returns-then-is_longer c = λ is. (
  c.loop-place.place,
  c.index-nodes-place.result,
  read_of c.args.nodes.now c.loop-place.place c.index-nodes-place.result c.loop-place-test.true c.index-nodes-place.is,
  c.is_longer.ensures c.if-is_longer.true,
)
