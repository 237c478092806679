use Rattle.std.proofs.Common.{refl}
use Rattle.cl_machine.specs.Cluster.{loaded_cluster}
use Rattle.cl_check.proofs.checking.check.Goals as goal

pub returns : goal.returns
returns c = c.check_from.ensures c.args.image.now (record {
  cluster = loaded_cluster c.args.image.now;
  run = refl;
  stands = c.in_ok-state.ensures;
})
