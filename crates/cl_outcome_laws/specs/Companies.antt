-- Ranks that are stuck together, while others may still run.
use Rattle.std.specs.Prelude.{ℕ, List}
use Rattle.cl_deadlock_laws.specs.Stuck.{AreStuck, SomeWaits}
use Rattle.cl_machine.specs.Cluster.{Cluster}

-- these ranks are stuck together, and a hart of theirs waits. Other ranks may still run
pub record IsCompany (ranks : List ℕ) (cluster : Cluster) : Type 0 where
  pub stuck : AreStuck ranks cluster
  pub waits : SomeWaits ranks cluster
