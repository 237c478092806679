-- The ends of the machine in which each standard SEND, and each WAIT or WAITALL of one, waits for the receive or goes on, in any
-- choice. Its runs are those of the cluster machine: that a send waits only means that its rank takes no turn behind it.
use Rattle.std.specs.Prelude.{ℕ, ◌≡◌, ◌⊎◌, Some}
use Rattle.std.specs.List.{slice_get}
use Rattle.cl_state.specs.Rank.{Rank}
use Rattle.cl_state_laws.specs.Vain.{IsStopped, mode_of}
use Rattle.cl_machine.specs.Cluster.{Cluster}
use Rattle.cl_order_laws.specs.Closed.{Plans, WaitsInVain}
use Rattle.cl_rest_laws.specs.Rests.{MayGoOn}

-- nobody has to go on: each hart that its plan names is stopped, waits in vain, or rests, and so may wait. Before a WAITALL that
-- has to wait for something else too a hart makes the call, and waits in vain
abbrev pub IsEndWhereSendsWait : Plans → Cluster → Type 0
IsEndWhereSendsWait plans c =
    (r n : ℕ) (rank : Rank) → slice_get c.ranks r ≡ Some rank
    → IsStopped (mode_of rank (plans r n))
    ⊎ (WaitsInVain c r rank (plans r n) ⊎ MayGoOn c r rank (plans r n))
