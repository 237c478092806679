-- The turns of a running rank, by what its parts became, and what they leave.
use Rattle.std.proofs.Common.{◌≡◌, ℕ, ◌<◌, ◌≤◌, ◌+◌, ◌^◌, List, [], ◌∷◌, ◌++◌, length, Option, Some, None, refl, sym}
use Rattle.std.proofs.Common.{ap, subst, ◌∙◌, arith, rules}
use Rattle.std.specs.Prelude.{take, vec_len}
use Rattle.mp_types.specs.declared.requests.Request.{Request}
use Rattle.cl_trace.specs.declared.events.Event.{Event}
use Rattle.cl_trace.specs.declared.events.Kind.{Kind}
use Rattle.cl_trace.specs.Rising.{last_stamp}
use Rattle.cl_trace.proofs.Rising.{last_stamp-push}
use Rattle.part_channel.specs.Channels.{ChannelView}
use Rattle.part_channel.specs.Receiving.{RecvView}
use Rattle.part_channel.specs.Sending.{SendView}
use Rattle.part_phase.specs.Phases.{sending_at}
use Rattle.cl_state.specs.declared.asking.Answer.TheVariants as answer
use Rattle.cl_state.specs.declared.asking.Ask.TheVariants as ask
use Rattle.cl_state.specs.declared.state.RankState.{RankState}
use Rattle.cl_state.specs.Asked.{asked}
use Rattle.cl_state.specs.Moves.{started_in}
use Rattle.cl_state.specs.Rank.{Rank}
use Rattle.cl_state.specs.Room.{rank_of}
use Rattle.cl_state.specs.Told.{told}
use Rattle.cl_rank.specs.declared.ranks.Rank.{Rank as Running}
use Rattle.cl_rank.specs.declared.turning.Turn.{Turn}
use Rattle.cl_deeds.specs.Deeds.{Act, Suits, Deed, IsStamp, answer_of, kind_of, request_of}
use Rattle.cl_rank.specs.Sides.{box_id_of}
use Rattle.cl_rank.specs.Fitting.{RequestsFit}
use Rattle.cl_sides.specs.Sides.{AreChannelsOf, AreSides, Sides, sides_in}
use Rattle.cl_rank.specs.Roomy.{IsRoomy}
use Rattle.cl_sides.specs.Steps.{IsReadied, MayReady, begun_at, begun_receiver, begun_sender}
use Rattle.cl_rank.specs.Views.{AsksNobody, MayTurn, TurnLeaves, place_in}
use Rattle.cl_deeds.proofs.Alone.{stamp_above}
use Rattle.cl_rank.proofs.Boxes.{long_enough, may_ready, ready_moved}
use Rattle.cl_rank.proofs.Keys.{somewhere}
use Rattle.cl_rank.proofs.Moves.{Moved, alone_moved, started_at}
use Rattle.cl_rank.proofs.Turned.{clock_told}

-- one event more is within the budget
pub one_more : (events new : List Event) (e : Event) (budget : ℕ) → new ≡ events ++ e ∷ [] → length events < budget
    → length new ≤ budget
one_more events new e budget is left =
    let count : length new ≡ length events + 1 = ap length is ∙ longer events in omega (arith, count, left)
  where
    longer : (xs : List Event) → length (xs ++ e ∷ []) ≡ length xs + 1
    longer [] = omega arith
    longer (x ∷ xs) = let rest : length (xs ++ e ∷ []) ≡ length xs + 1 = longer xs in omega (arith, rest)

-- and the last stamp is then its stamp
pub stamped_by : (events new : List Event) (e : Event) → new ≡ events ++ e ∷ [] → last_stamp 0 new ≡ e.stamp
stamped_by events new e is = ap (last_stamp 0) is ∙ last_stamp-push 0 events e

abbrev pub deed_of : Rank → ℕ → ℕ → Act → Deed
deed_of old hart stamp act = record { rank = old.site.number; hart = hart; stamp = stamp; act = act }

abbrev pub event : ℕ → ℕ → Kind → Option Request → Event
event hart stamp kind request = record { hart = hart; stamp = stamp; kind = kind; request = request }

-- a rank went by an act of a hart at a stamp: its state was told so, and its sides became these
pub record Went (r : Running) (hart stamp : ℕ) (act : Act) (new : RankState) (after : Sides) : Type 0 where
  pub there : hart < vec_len r.state.harts
  pub low : stamp < 2 ^ 62
  pub answers : Suits (asked (rank_of r.state) hart) act
  pub stamps : IsStamp r.state.clock act stamp
  pub tells : rank_of new ≡ told (rank_of r.state) hart (answer_of act) stamp
  pub moved : Moved (rank_of r.state) (rank_of new) (sides_in r.sends.items r.recvs.items) after stamp act

-- what a rank keeps
abbrev pub Keeps : RankState → List Event → ℕ → Sides → Option ℕ → Option Request → Type 0
Keeps new events budget after roomy again = record {
  low : new.clock < 2 ^ 62;
  within : length events ≤ budget;
  stamped : last_stamp 0 events ≤ new.clock;
  sides : AreSides new.site.version new.phases new.clock after;
  fit : RequestsFit new.requests new.phases;
  room : IsRoomy new roomy again;
}

-- where no poll was in vain there is no room to be kept
pub no_room : (new : RankState) {roomy : Option ℕ} (again : Option Request) → roomy ≡ None → IsRoomy new roomy again
no_room new again none = subst (λ (o : Option ℕ). IsRoomy new o again) (sym none) tt

module _ {r : Running} {hart stamp : ℕ} {act : Act} {new : RankState} {after : Sides}
    (went : Went r hart stamp act new after) where
  -- its stamp is above those of the events before, and can be kept
  pub in_time : {n : ℕ} → n ≡ stamp → (last_stamp 0 r.trace.events < n) × (n < 2 ^ 62)
  in_time {n} is =
      let above = stamp_above r.state.clock stamp act went.stamps in
      (omega (arith, above, r.stamped, is), omega (arith, went.low, is))

  pub keeps : {events : List Event} (roomy : Option ℕ) (again : Option Request) (e : Event) → length r.trace.events < r.budget → e.stamp ≡ stamp
      → events ≡ r.trace.events ++ e ∷ [] → IsRoomy new roomy again → Keeps new events r.budget after roomy again
  keeps {events} roomy again e left is event room =
      let clock : new.clock ≡ stamp =
      clock_told (rank_of r.state) (rank_of new) hart (answer_of act) stamp went.tells in
      let last = stamped_by r.trace.events events e event in
      record {
        low = omega (arith, clock, went.low);
        within = one_more r.trace.events events e r.budget event left;
        stamped = omega (arith, clock, last, is);
        sides = went.moved.sides;
        fit = went.moved.fit;
        room = room;
      }

-- what the turn leaves
pub leaves : {r new : Running} {hart stamp : ℕ} {act : Act}
    → Went r hart stamp act new.state (sides_in new.sends.items new.recvs.items)
    → new.trace.events ≡ r.trace.events ++ event hart stamp (kind_of act) (request_of act) ∷ []
    → place_in new.asked_box ≡ box_id_of act → new.budget ≡ r.budget → vec_len new.state.harts ≡ vec_len r.state.harts
    → TurnLeaves hart (deed_of (rank_of r.state) hart stamp act) r new
leaves {r} {new} {hart} {stamp} {act} went noted place budget harts = record {
  rank = refl;
  by = refl;
  event = noted;
  moves = (search (rules, went.there), went.low, went.answers, went.stamps, went.tells);
  keys = went.moved.keys;
  box = place;
  own = went.moved.own;
  budget = budget;
  harts = harts;
}

pub some_none : (r : Request) → Some r ≡ None → ⊥
some_none r h = cc

pub alone_stamp : (clock : ℕ) (act : Act) → box_id_of act ≡ None → request_of act ≡ None → IsStamp clock act (clock + 1)
alone_stamp clock Act.Plain place quiet = refl
alone_stamp clock Act.Local place quiet = refl
alone_stamp clock Act.Held place quiet = refl
alone_stamp clock Act.Idle place quiet = refl
alone_stamp clock (Act.Hub at request reply) place quiet = absurd (some_none request quiet)
alone_stamp clock (Act.Ready link part bytes) place quiet = absurd (somewhere (link, part) place)
alone_stamp clock (Act.Take link part gate bytes) place quiet = absurd (somewhere (link, part) place)
alone_stamp clock (Act.Miss link part) place quiet = absurd (somewhere (link, part) place)
alone_stamp clock (Act.Freed link part gate) place quiet = absurd (somewhere (link, part) place)

-- the event of a turn that made no call
pub uncalled_event : {hart stamp : ℕ} {k : Kind} {new : List Event} (act : Act) (events : List Event) (e : Event)
    → k ≡ kind_of act → request_of act ≡ None → e ≡ event hart stamp k None → new ≡ events ++ e ∷ []
    → new ≡ events ++ event hart stamp (kind_of act) (request_of act) ∷ []
uncalled_event {hart} {stamp} {k} {new} act events e kind quiet is noted =
    noted ∙ ap (λ x. events ++ x ∷ [])
    (is ∙ (ap (λ j. event hart stamp j None) kind ∙ ap (event hart stamp (kind_of act)) (sym quiet)))

-- a turn that asks nobody
module _ (r : Running) (t : Turn) (new : RankState) {kind : Kind} {link : Option ℕ} {sends : List (ℕ × SendView)}
    {recvs : List (ℕ × RecvView)} where
  pub went_alone : MayTurn r t → (q : AsksNobody (asked (rank_of r.state) t.hart) kind)
      → rank_of new ≡ told (rank_of r.state) t.hart answer.Alone (r.state.clock + 1)
      → link ≡ started_in r.state.requests t.doing
      → sends ≡ begun_at link begun_sender r.sends.items → recvs ≡ begun_at link begun_receiver r.recvs.items
      → Went r t.hart (r.state.clock + 1) q.act new (sides_in sends recvs)
  went_alone may q is named sent got =
      let started : link ≡ started_at (rank_of r.state) t.hart =
      named ∙ ap (started_in r.state.requests) may.next.spelled in
      let moved = alone_moved (rank_of r.state) (rank_of new) t.hart (r.state.clock + 1) q.act r.sends.items
      r.recvs.items r.sides r.fit q.answers q.nowhere q.quiet (omega arith) is in
      record {
        there = may.has.there;
        low = may.has.low;
        answers = q.answers;
        stamps = alone_stamp r.state.clock q.act q.nowhere q.quiet;
        tells = is ∙ ap (λ a. told (rank_of r.state) t.hart a (r.state.clock + 1)) (sym q.alone);
        moved = subst (λ ss. Moved (rank_of r.state) (rank_of new) (sides_in r.sends.items r.recvs.items)
            (sides_in ss recvs) (r.state.clock + 1) q.act)
            (sym (sent ∙ ap (λ l. begun_at l begun_sender r.sends.items) started))
            (subst (λ rs. Moved (rank_of r.state) (rank_of new) (sides_in r.sends.items r.recvs.items)
            (sides_in (begun_at (started_at (rank_of r.state) t.hart) begun_sender r.sends.items) rs)
            (r.state.clock + 1) q.act)
            (sym (got ∙ ap (λ l. begun_at l begun_receiver r.recvs.items) started)) moved);
      }

-- the same first bytes
pub cut_is : (P : List ℕ → Type 0) (n m : ℕ) (xs ys : List ℕ) → n ≡ m → xs ≡ ys → P (take m ys) → P (take n xs)
cut_is P n m xs ys size same p = subst (λ k. P (take k xs)) (sym size) (subst (λ l. P (take m l)) (sym same) p)

-- a rank that makes a partition ready, with the first bytes of what it asked for
module _ (r : Running) (t : Turn) {link part : ℕ} {full : List ℕ} {channels : List ChannelView}
    (own : AreChannelsOf r.state.site.version channels (sides_in r.sends.items r.recvs.items))
    (asks : asked (rank_of r.state) t.hart ≡ ask.Ready link part full) where
  pub in_bounds : (sending_at r.state.phases link).size ≤ length full
  in_bounds =
      long_enough (rank_of r.state) t.hart link part full channels r.sends.items r.recvs.items r.sides r.fit own asks

  module _ {size : ℕ} {bytes : List ℕ} (size_is : size ≡ (sending_at r.state.phases link).size) (same : bytes ≡ full) where
    pub may_go : MayReady channels link part (take size bytes) r.state.clock r.sends.items
    may_go =
        cut_is (λ bs. MayReady channels link part bs r.state.clock r.sends.items) size _ bytes full size_is same
        (may_ready (rank_of r.state) t.hart link part full channels r.sends.items r.recvs.items r.sides r.fit own asks)

    pub went_ready : (new : RankState) {stamp : ℕ} {sent : List (ℕ × SendView)} → MayTurn r t
        → stamp ≡ r.state.clock + 1 → rank_of new ≡ told (rank_of r.state) t.hart answer.Alone stamp
        → IsReadied channels link part (take size bytes) stamp r.sends.items sent
        → Went r t.hart stamp (Act.Ready link part full) new (sides_in sent r.recvs.items)
    went_ready new {stamp} {sent} may next is done = record {
      there = may.has.there;
      low = subst (λ n. n < 2 ^ 62) (sym next) may.has.low;
      answers = asks;
      stamps = next;
      tells = is;
      moved = ready_moved (rank_of r.state) t.hart link part full channels r.sends.items r.recvs.items r.sides r.fit own
          asks (rank_of new) stamp sent next is
          (cut_is (λ bs. IsReadied channels link part bs stamp r.sends.items sent) _ size full bytes (sym size_is) (sym same)
          done);
    }
