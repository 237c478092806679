-- Ranks that need buffers, as a search notes them: the most that are held up together.
use Rattle.std.specs.Prelude.{ℕ, List}
use Rattle.std.specs.List.Sorted.{IsStrictlyIncreasing}
use Rattle.mp_wait_laws.specs.Waits.{OnlyOf}
use Rattle.cl_machine.specs.Cluster.{Cluster}
use Rattle.cl_deadlock_laws.specs.Stuck.{is_among}
use Rattle.cl_deadlock.specs.Why.{AreRanks}
use Rattle.cl_rest_laws.specs.Buffering.{AreHeldUp, NeedBuffers}

-- these numbers of ranks, in rising order, need buffers, and are the most that are held up together
pub record IsNeed (ranks : List ℕ) (c : Cluster) : Type 0 where
  pub are_ranks : AreRanks ranks c
  pub rising : IsStrictlyIncreasing ranks
  pub need : NeedBuffers ranks c
  pub most : (others : List ℕ) → AreRanks others c → AreHeldUp others c → OnlyOf (is_among ranks) (is_among others)

-- none do
abbrev pub IsNoNeed : Cluster → Type 0
IsNoNeed c = (ranks : List ℕ) → AreRanks ranks c → ¬ NeedBuffers ranks c
