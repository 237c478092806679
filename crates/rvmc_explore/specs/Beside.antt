-- Ranks that run on beside others that are stuck.
use Rattle.std.specs.Prelude.{ℕ, ◌≡◌, false, List, slice_get, Some}
use Rattle.cl_deadlock_laws.specs.Stuck.{is_among}
use Rattle.cl_machine.specs.Cluster.{Cluster}
use Rattle.cl_moves.specs.Standing.{by_order}
use Rattle.cl_order_laws.specs.Closed.{Node, WaitsInVain}
use Rattle.cl_outcome_laws.specs.Unending.{NeverEnds}
use Rattle.cl_state.specs.Rank.{Rank}
use Rattle.cl_state_laws.specs.Vain.{IsStopped, mode_of}

-- a rank that isn't among these can go on: a hart of it that takes turns isn't stopped, and doesn't wait in vain
pub record AnotherGoesOn (order ranks : List ℕ) (cluster : Cluster) : Type 0 where
  pub r : ℕ
  pub rank : Rank
  pub slot : ℕ
  pub there : slice_get cluster.ranks r ≡ Some rank
  pub another : is_among ranks r ≡ false
  pub not_stopped : ¬ IsStopped (mode_of rank (by_order order r slot))
  pub not_in_vain : ¬ WaitsInVain cluster r rank (by_order order r slot)

-- others run on beside these ranks: one of them can go on here. If no state is left they do so for ever: whatever turns are taken
-- from here, somebody can go on after them
pub record OthersRunOn (order ranks : List ℕ) (left : ℕ) (node : Node) : Type 0 where
  pub now : AnotherGoesOn order ranks node.cluster
  pub forever : left ≡ 0 → NeverEnds (by_order order) node
