-- A turn of a rank whose room was made ends as one of the rank before: contracts see the same of both.
use Rattle.std.proofs.Common.{◌≡◌, ◌∙◌, ◌++◌, ◌∷◌, [], ℕ, List, None, Some, length, ap, refl, subst, sym}
use Rattle.std.specs.Prelude.{Err, IfErr, Ok, OnErr, OnOk, Result, vec_len}
use Rattle.mp_types.specs.declared.requests.Request.{Request}
use Rattle.part_channel.specs.Channels.{ChannelView}
use Rattle.cl_state.specs.Rank.{Rank as RankAlone}
use Rattle.cl_state.specs.Room.{rank_of}
use Rattle.cl_rank.specs.declared.ranks.Rank.{Rank as Running}
use Rattle.cl_rank.specs.declared.stops.Stop.{Stop}
use Rattle.cl_rank.specs.declared.stops.Stop.TheVariants as stop
use mathlib.Core.Logic.{inl, inr}
use Rattle.cl_deeds.specs.Deeds.{Act, RankMoves, event_of, request_of}
use Rattle.cl_sides.specs.Sides.{AreChannelsOf}
use Rattle.cl_rank.specs.RankSides.{KeysMove}
use Rattle.cl_rank.specs.Turning.{DeskRule, IsTurn, RankView, StopHolds, TellsAct}
use Rattle.cl_deeds.specs.Turns.{IsActive}
use Rattle.cl_rank.specs.Views.{IsOver, IsQuietTurn, TurnEnds, view_of}
use Rattle.cl_rank.proofs.Ends.{turn_ends}

-- what contracts see of a rank, with another state
abbrev pub seen : Running → RankAlone → RankView
seen r state = record (view_of r) { rank = state }

module _ {D : Type 0} (gives : DeskRule D) (hart : ℕ) (old : Running) (channels : List ChannelView) where
  -- an act that is no call tells the desk nothing
  tells_nothing : (rank by stamp : ℕ) (desk : D) (act : Act) → request_of act ≡ None
      → TellsAct gives rank by stamp desk desk act
  tells_nothing rank by stamp desk (Act.Hub clock request reply) quiet = absurd (some_none request quiet)
    where
      some_none : (request : Request) → Some request ≡ None → ⊥
      some_none request h = cc
  tells_nothing rank by stamp desk Act.Plain quiet = refl
  tells_nothing rank by stamp desk Act.Local quiet = refl
  tells_nothing rank by stamp desk (Act.Ready link part bytes) quiet = refl
  tells_nothing rank by stamp desk (Act.Take link part gate bytes) quiet = refl
  tells_nothing rank by stamp desk (Act.Miss link part) quiet = refl
  tells_nothing rank by stamp desk (Act.Freed link part gate) quiet = refl
  tells_nothing rank by stamp desk Act.Held quiet = refl
  tells_nothing rank by stamp desk Act.Idle quiet = refl

  -- what stopped a turn whose trace had no less room stops one of the rank before
  no_less_room : (rank : RankAlone) (mid room turns budget : ℕ) (desk left : D) (s : Stop) → (mid ≡ 0 → room ≡ 0)
      → StopHolds gives hart rank mid turns budget desk left s → StopHolds gives hart rank room turns budget desk left s
  no_less_room rank mid room turns budget desk left s less (inr refused) = inr refused
  no_less_room rank mid room turns budget desk left stop.AllEnded less (inl own) = inl own
  no_less_room rank mid room turns budget desk left stop.Budget less (inl own) = inl own
  no_less_room rank mid room turns budget desk left (stop.ClockFull c) less (inl own) = inl own
  no_less_room rank mid room turns budget desk left stop.Memory less (inl ((active, inl none), same)) =
      inl ((active, inl (less none)), same)
  no_less_room rank mid room turns budget desk left stop.Memory less (inl ((active, inr other), same)) =
      inl ((active, inr other), same)
  no_less_room rank mid room turns budget desk left (stop.Calls n) less (inl own) = inl own

  none_less : (result : Result (Unit {0}) Stop) (rank : RankAlone) (mid room turns budget : ℕ) (desk left : D)
      → (mid ≡ 0 → room ≡ 0)
      → IfErr result (λ s. StopHolds gives hart rank mid turns budget desk left s)
      → IfErr result (λ s. StopHolds gives hart rank room turns budget desk left s)
  none_less (Ok x) rank mid room turns budget desk left less h = tt
  none_less (Err s) rank mid room turns budget desk left less h =
      no_less_room rank mid room turns budget desk left s less h

  module _ (mid : Running) (same : view_of mid ≡ view_of old) (budget : mid.budget ≡ old.budget)
      (harts : vec_len mid.state.harts ≡ vec_len old.state.harts) where
    -- a turn that asks nobody
    pub quiet_ends : (new : Running) (desk : D) → IsActive (rank_of old.state) (length old.trace.events) old.budget
        → IsOver old channels → IsQuietTurn hart mid new → TurnEnds gives hart channels old desk (Ok tt) new desk
    quiet_ends new desk active own quiet =
        let deed = quiet.deed in
        let leaves = quiet.leaves in
        turn_ends gives hart old channels deed new desk desk active own
        (record {
          rank = leaves.rank ∙ ap (λ (v : RankView). v.rank.site.number) same;
          by = leaves.by;
          event = leaves.event ∙ ap (λ (v : RankView). v.events ++ event_of deed ∷ []) same;
          moves = subst (λ (v : RankView). RankMoves v.rank deed (rank_of new.state)) same leaves.moves;
          keys = subst (λ (v : RankView). KeysMove v.rank.site.version deed.stamp deed.act v.sides (view_of new).sides)
              same leaves.keys;
          box = leaves.box;
          own = λ cs over. leaves.own cs
              (subst (λ (v : RankView). AreChannelsOf v.rank.site.version cs v.sides) (sym same) over);
          budget = leaves.budget ∙ budget;
          harts = leaves.harts ∙ harts;
        })
        (tells_nothing deed.rank deed.hart deed.stamp desk deed.act quiet.quiet)

    -- any turn
    pub same_ends : (result : Result (Unit {0}) Stop) (new : Running) (desk left : D)
        → (mid.trace.room ≡ 0 → old.trace.room ≡ 0)
        → TurnEnds gives hart channels mid desk result new left → TurnEnds gives hart channels old desk result new left
    same_ends result new desk left less ends = record {
      turned = subst (λ (v : RankView). OnOk result (IsTurn gives hart v (view_of new) desk left)) same ends.turned;
      active = subst (λ (n : ℕ). OnOk result (IsActive (rank_of old.state) (length old.trace.events) n)) budget
          (subst (λ (v : RankView). OnOk result (IsActive v.rank (length v.events) mid.budget)) same ends.active);
      stop = subst (λ (n : ℕ). IfErr result
          (λ s. StopHolds gives hart (rank_of old.state) old.trace.room (length old.trace.events) n desk left s)) budget
          (subst (λ (v : RankView). IfErr result
          (λ s. StopHolds gives hart v.rank old.trace.room (length v.events) mid.budget desk left s)) same
          (none_less result (rank_of mid.state) mid.trace.room old.trace.room (length mid.trace.events) mid.budget desk
          left less ends.stop));
      unchanged = subst (λ (v : RankView). OnErr result (view_of new ≡ v)) same ends.unchanged;
      own = ends.own;
      budget = ends.budget ∙ budget;
      harts = ends.harts ∙ harts;
    }
