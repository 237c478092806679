-- How a turn of a running rank ends that was taken, by what it leaves and what it told the desk.
use Rattle.std.proofs.Common.{◌≡◌, ◌∙◌, ℕ, List, false, length, subst, true}
use Rattle.std.specs.Prelude.{Ok, Result}
use Rattle.mp_types.specs.declared.replies.Reply.{Reply}
use Rattle.mp_types.specs.declared.requests.Request.{Request}
use Rattle.part_channel.specs.Channels.{ChannelView}
use Rattle.cl_state.specs.Rank.{Rank as RankAlone}
use Rattle.cl_state.specs.Room.{rank_of}
use Rattle.cl_rank.specs.declared.ranks.Rank.{Rank as Running}
use Rattle.cl_rank.specs.declared.stops.Stop.{Stop}
use Rattle.cl_deeds.specs.Deeds.{Deed}
use Rattle.cl_rank.specs.Turning.{DeskRule, Tells}
use Rattle.cl_deeds.specs.Turns.{AllStopped, IsActive, all_stopped}
use Rattle.cl_rank.specs.Views.{HasTurn, IsHubTurn, IsOver, TurnEnds, TurnLeaves, hub_deed}

-- a rank of which the code found that some hart isn't stopped
pub some_runs : (rank : RankAlone) → false ≡ all_stopped rank → AllStopped rank → ⊥
some_runs rank found all = false_true (found ∙ all)
  where
    false_true : false ≡ true → ⊥
    false_true h = cc

-- a rank that has a turn, and a hart that isn't stopped
pub is_active : (r : Running) (hart : ℕ) → ¬ (AllStopped (rank_of r.state)) → HasTurn r hart
    → IsActive (rank_of r.state) (length r.trace.events) r.budget
is_active r hart runs has = record { runs = runs; left = has.left; low = has.low }

module _ {D : Type 0} (gives : DeskRule D) (hart : ℕ) (old : Running) where
  pub turn_ends : (channels : List ChannelView) (deed : Deed) (new : Running) (desk left : D)
      → IsActive (rank_of old.state) (length old.trace.events) old.budget → IsOver old channels
      → TurnLeaves hart deed old new → Tells gives desk left deed
      → TurnEnds gives hart channels old desk (Ok tt) new left
  turn_ends channels deed new desk left active own leaves tells = record {
    turned = record {
      deed = deed;
      rank = leaves.rank;
      by = leaves.by;
      event = leaves.event;
      moves = leaves.moves;
      tells = tells;
      keys = leaves.keys;
      box = leaves.box;
    };
    active = active;
    stop = tt;
    unchanged = tt;
    own = leaves.own channels own;
    budget = leaves.budget;
    harts = leaves.harts;
  }

  -- the turn of a call, whose reply is this
  pub call_ends : (channels : List ChannelView) (request : Request) (reply told : Reply) (stamp : ℕ) (new : Running)
      (desk left : D) → ¬ (AllStopped (rank_of old.state)) → HasTurn old hart → IsOver old channels
      → TurnLeaves hart (hub_deed hart request told stamp old) old new → reply ≡ told
      → gives desk old.state.site.number hart old.state.clock request (Ok (reply, stamp)) left
      → TurnEnds gives hart channels old desk (Ok tt) new left
  call_ends channels request reply told stamp new desk left runs has own leaves same given =
      turn_ends channels _ new desk left (is_active old hart runs has) own leaves
      (subst (λ r. gives desk old.state.site.number hart old.state.clock request (Ok (r, stamp)) left) same given)

-- the turn of a hart by another name
pub by_hart : {D : Type 0} {gives : DeskRule D} {one hart : ℕ} {channels : List ChannelView} {old new : Running}
    {desk left : D} {result : Result (Unit {0}) Stop} → one ≡ hart → TurnEnds gives one channels old desk result new left
    → TurnEnds gives hart channels old desk result new left
by_hart {D} {gives} {one} {hart} {channels} {old} {new} {desk} {left} {result} same ends =
    subst (λ h. TurnEnds gives h channels old desk result new left) same ends

-- a turn that was worked out behind its call, by a rank that stayed as it was
pub worked_behind : {old same new : Running} {hart other : ℕ} (request : Request) (reply : Reply) (stamp : ℕ)
    → same ≡ old → other ≡ hart → IsHubTurn other request reply stamp same new
    → IsHubTurn hart request reply stamp old new
worked_behind {old} {same} {new} {hart} {other} request reply stamp stays is told =
    subst (λ (r : Running). IsHubTurn hart request reply stamp r new) stays
    (subst (λ h. IsHubTurn h request reply stamp same new) is told)
