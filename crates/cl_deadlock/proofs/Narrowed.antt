-- The most ranks that are stuck together, by leaving out whoever isn't stuck beside the rest.
use Rattle.std.specs.Prelude.{ℕ, ◌≡◌, List, length, get_or, remove}
use Rattle.std.proofs.Common.{subst, arith}
use Rattle.cl_state.specs.Rank.{below}
use Rattle.cl_replay.specs.declared.states.ClusterState.{ClusterState}
use Rattle.cl_deadlock_laws.specs.Laws.{IsStuckBeside}
use Rattle.cl_deadlock_laws.proofs.Unions.{narrow_law}
use Rattle.cl_deadlock.specs.Stuck.{HasStuckIn, IsFreeIn}
use Rattle.cl_deadlock.specs.Why.{AreBelow}
use Rattle.cl_deadlock.proofs.Left.{among_below, below_among, still_there, was_there}
use Rattle.cl_deadlock.proofs.Told.{count_is}

-- all ranks have whichever are stuck among them
pub all_have : (state : ClusterState) (n : ℕ) → n ≡ length state.ranks.items → HasStuckIn (below n) state
all_have state n count image cluster is others ranks stuck r here =
    let low = ranks r here in
    let same = count_is image state cluster is.stands in
    below_among n r (omega (arith, low, same, count))

-- whoever isn't stuck beside the rest is left out
pub left_have : (state : ClusterState) (among : List ℕ) (place : ℕ) → IsFreeIn among state (get_or among place 0)
    → HasStuckIn among state → HasStuckIn (remove among place) state
left_have state among place free most image cluster is others ranks stuck r here =
    still_there among place r (most image cluster is others ranks stuck r here) (λ same.
    narrow_law among others cluster r (most image cluster is others ranks stuck)
    (subst (λ k. ¬ IsStuckBeside among cluster k) same (free image cluster is)) stuck here)

pub all_low : (n : ℕ) → AreBelow (below n) n
all_low n r here = among_below n r here

pub left_low : (among : List ℕ) (place count : ℕ) → AreBelow among count → AreBelow (remove among place) count
left_low among place count low r here = low r (was_there among place r here)
