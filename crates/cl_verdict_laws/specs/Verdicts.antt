-- Clusters that were reached and are alike have one verdict.
use Rattle.std.specs.Prelude.{ℕ, ◌≡◌, List, Option}
use Rattle.rv_image_types.specs.declared.images.ImageParts.{ImageParts}
use Rattle.cl_machine.specs.Cluster.{Cluster}
use Rattle.cl_deadlock_laws.specs.Stuck.{AreStuck, IsReachable}
use Rattle.cl_deadlock.specs.Why.{IsVerdictOf}
use Rattle.mp_source_laws.specs.Alike.{Wild}
use Rattle.cl_reduction_laws.specs.Below.{AreAlike}

pub record VerdictLaw : Type 0 where
  -- ranks that are stuck together are so in each cluster that is alike
  pub stuck : (image : ImageParts) (wild : Wild) (a b : Cluster) (ranks : List ℕ) → IsReachable image a → AreAlike wild a b
      → AreStuck ranks a
      → AreStuck ranks b
  -- so the verdict on both is the same
  pub verdict : (image : ImageParts) (wild : Wild) (a b : Cluster) (one other : Option (List ℕ)) → IsReachable image a
      → IsReachable image b → AreAlike wild a b → IsVerdictOf a one → IsVerdictOf b other
      → one ≡ other
