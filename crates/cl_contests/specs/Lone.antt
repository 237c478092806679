-- A rank that can go on where no other rank can.
use Rattle.std.specs.Prelude.{ℕ, ◌<◌, ◌≡◌, ◌≢◌, ◌⊎◌, Bool, true, slice_get, Option, Some, None}
use Rattle.mp_types.specs.declared.requests.Request.{Request}
use Rattle.cl_state.specs.declared.asking.Ask.{Ask}
use Rattle.cl_state.specs.declared.state.RankState.{RankState}
use Rattle.cl_state.specs.Asked.{asked, doing, part_of}
use Rattle.cl_state.specs.Room.{rank_of}
use Rattle.cl_state_laws.specs.Vain.{IsStopped, mode_of, waits_on}
use Rattle.rv_image_types.specs.declared.images.ImageParts.{ImageParts}
use Rattle.cl_machine.specs.declared.steps.Step.{Step}
use Rattle.cl_machine.specs.Cluster.{Cluster}
use Rattle.cl_order_laws.specs.Closed.{IsInVain}
use Rattle.cl_replay.specs.States.{ClusterStandsFor}
use Rattle.cl_moves.specs.declared.standing.Standing.{Standing}
use Rattle.cl_reduction_laws.specs.Clusters.{Search}
use Rattle.cl_contests.specs.Turns.{IsFirstTurn, IsMeetingTurn, MayGoFirst}

-- the rank's first hart is stopped, or makes a call anew, in vain
abbrev pub IsStillIn : Standing → ℕ → RankState → Type 0
IsStillIn standing r own =
    IsStopped (mode_of (rank_of own) 0)
    ⊎ ((waits_on (doing own.site (part_of (rank_of own) 0)) ≡ true)
    × ((image : ImageParts) (cluster : Cluster) → ClusterStandsFor image standing.cluster cluster
    → IsInVain cluster r (asked (rank_of own) 0)))

-- each other rank is
abbrev pub IsLoneRank : Standing → ℕ → Type 0
IsLoneRank standing r =
    (s : ℕ) (own : RankState) → s ≢ r → slice_get standing.cluster.ranks.items s ≡ Some own → IsStillIn standing s own

-- it isn't this rank
abbrev pub IsOther : Option ℕ → ℕ → Type 0
IsOther None s = Unit {0}
IsOther (Some r) s = s ≢ r

-- each of the first ranks is, but for this one
abbrev pub AreStillBelow : Standing → Option ℕ → ℕ → Type 0
AreStillBelow standing lone n =
    (s : ℕ) → s < n → (own : RankState) → slice_get standing.cluster.ranks.items s ≡ Some own → IsOther lone s
    → IsStillIn standing s own

abbrev pub IsLoneIfSome : Standing → Option ℕ → Type 0
IsLoneIfSome standing None = Unit {0}
IsLoneIfSome standing (Some r) = IsLoneRank standing r

abbrev pub IsTurnIfSome : ℕ → Option Step → Type 0
IsTurnIfSome rank None = Unit {0}
IsTurnIfSome rank (Some e) = (e.rank ≡ rank) × (e.hart ≡ 0)

-- the next turn of the rank, which may go first, a call
pub record IsLoneTurn (may_wait : Bool) (standing : Standing) (e : Step) : Type 0 where
  pub own : RankState
  pub there : slice_get standing.cluster.ranks.items e.rank ≡ Some own
  pub hart_is : e.hart ≡ 0
  pub request : Request
  pub asks : asked (rank_of own) 0 ≡ Ask.Hub request
  pub lone : IsLoneRank standing e.rank
  pub anyway : MayGoFirst may_wait standing e.rank

abbrev pub IsLoneNext : Bool → Standing → Option Step → Type 0
IsLoneNext may_wait standing None = Unit {0}
IsLoneNext may_wait standing (Some e) = IsLoneTurn may_wait standing e

-- the next turn of a rank that goes first
abbrev pub IsNextTurn : Search → Standing → Option Step → Type 0
IsNextTurn search standing None = Unit {0}
IsNextTurn search standing (Some e) =
    IsFirstTurn search standing e ⊎ (IsMeetingTurn search standing e ⊎ IsLoneTurn search.may_wait standing e)
