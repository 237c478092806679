-- What goes by one desk's rule goes by another's, where each call does.
use Rattle.std.specs.Prelude.{ℕ, Result, Ok, Err}
use Rattle.std.proofs.Common.{ap, inl, inr}
use Rattle.mp_types.specs.declared.requests.Request.{Request}
use Rattle.mp_types.specs.declared.replies.Reply.{Reply}
use Rattle.cl_journal.specs.declared.journal.HubFault.{HubFault}
use Rattle.cl_journal.specs.Replaying.{HubHistory}
use Rattle.cl_state.specs.Rank.{Rank}
use Rattle.cl_deeds.specs.Deeds.{Act}
use Rattle.cl_rank.specs.Turning.{Answered, DeskRule, StopHolds, TellsAct}
use Rattle.cl_rank.specs.declared.stops.Stop.{Stop}
use Rattle.cl_record.specs.Seats.{GoesOn, Station}
use Rattle.cl_record.specs.declared.plans.Plan.{Plan}

module _ {D : Type 0} (gives : DeskRule D) (hub : D → HubHistory)
    (of : (before : D) (rank hart clock : ℕ) (request : Request) (told : Result (Reply × ℕ) HubFault) (after : D)
    → gives before rank hart clock request told after
    → Answered (hub before) rank hart clock request told (hub after)) where
  tells : (rank hart stamp : ℕ) (before after : D) (act : Act) → TellsAct gives rank hart stamp before after act
      → TellsAct Answered rank hart stamp (hub before) (hub after) act
  tells rank hart stamp before after (Act.Hub clock request reply) h =
      of before rank hart clock request (Ok (reply, stamp)) after h
  tells rank hart stamp before after Act.Plain h = ap hub h
  tells rank hart stamp before after Act.Local h = ap hub h
  tells rank hart stamp before after (Act.Ready link part bytes) h = ap hub h
  tells rank hart stamp before after (Act.Take link part gate bytes) h = ap hub h
  tells rank hart stamp before after (Act.Miss link part) h = ap hub h
  tells rank hart stamp before after (Act.Freed link part gate) h = ap hub h
  tells rank hart stamp before after Act.Held h = ap hub h
  tells rank hart stamp before after Act.Idle h = ap hub h

  holds : (hart : ℕ) (rank : Rank) (room turns budget : ℕ) (before after : D) (s : Stop)
      → StopHolds gives hart rank room turns budget before after s
      → StopHolds Answered hart rank room turns budget (hub before) (hub after) s
  holds hart rank room turns budget before after s (inl own) = inl (own.0, ap hub own.1)
  holds hart rank room turns budget before after s (inr refused) =
      let f = refused.1.0 in
      let asks = refused.1.3 in
      inr (
        refused.0,
        (
          f,
          refused.1.1,
          refused.1.2,
          (
            asks.0,
            asks.1,
            of before rank.site.number hart rank.clock asks.0 (Err f) after asks.2,
          ),
        ),
      )

  pub goes_plainly : (plan : Plan) (old new : Station) (before after : D) → GoesOn gives plan old before new after
      → GoesOn Answered plan old (hub before) new (hub after)
  goes_plainly plan old new before after (inl turn) = inl (record {
    deed = turn.deed;
    rank_is = turn.rank_is;
    hart_is = turn.hart_is;
    moves = turn.moves;
    tells = tells turn.deed.rank turn.deed.hart turn.deed.stamp before after turn.deed.act turn.tells;
    keys = turn.keys;
    asked_is = turn.asked_is;
    runs = turn.runs;
    turns_left = turn.turns_left;
    traced = turn.traced;
    next_is = turn.next_is;
    budget_stays = turn.budget_stays;
    goes_on = turn.goes_on;
  })
  goes_plainly plan old new before after (inr stops) = inr (record {
    hart = stops.hart;
    hart_is = stops.hart_is;
    stop = stops.stop;
    room = stops.room;
    holds = holds stops.hart old.rank stops.room _ old.budget before after stops.stop stops.holds;
    rank_stays = stops.rank_stays;
    events_stay = stops.events_stay;
    sides_stay = stops.sides_stay;
    asked_stays = stops.asked_stays;
    next_stays = stops.next_stays;
    budget_stays = stops.budget_stays;
    stops = stops.stops;
  })
