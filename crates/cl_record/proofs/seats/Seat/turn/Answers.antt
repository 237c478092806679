use Rattle.std.proofs.Common.{refl, ◌∙◌, ap, ◌%◌, ◌+◌}
use Rattle.std.proofs.lemmas.List.{get_or_read}
use Rattle.std.proofs.lemmas.Option.{same_Some}
use mathlib.Core.Logic.{inl, inr}
use Rattle.cl_rank.specs.Turning.{RankView}
use Rattle.cl_record.specs.Seats.{station}
use Rattle.cl_record.proofs.RunsOut.{runs_out}
use Rattle.cl_record.proofs.seats.Seat.turn.Goals as goal

pub returns-in-Ok-clause-goes : goal.returns-in-Ok-clause-goes
returns-in-Ok-clause-goes g c =
    let turn = c.in-Ok.ensures.turned in
    let seat = c.args.self.now in
    let order = seat.plan.now.order in
    inl (record {
      deed = turn.deed;
      rank_is = turn.rank;
      hart_is = turn.by ∙ get_or_read order.items seat.next c.index-hart.result.now seat.next_there c.index-hart.ensures 0;
      moves = turn.moves;
      tells = turn.tells;
      keys = turn.keys;
      asked_is = turn.box;
      runs = c.in-Ok.ensures.active.runs;
      turns_left = c.in-Ok.ensures.active.left;
      traced = turn.event;
      next_is = c.place_after-self.ensures.place ∙ ap (λ n. (seat.next + 1) % n) (c.len.ensures ∙ order.ok.0);
      budget_stays = c.turn.ensures.budget;
      goes_on = c.requires.running;
    })

pub returns-in-Err-clause-goes : goal.returns-in-Err-clause-goes
returns-in-Err-clause-goes g c =
    let seat = c.args.self.now in
    let order = seat.plan.now.order in
    inr (record {
      hart = c.index-hart.result.now;
      hart_is = get_or_read order.items seat.next c.index-hart.result.now seat.next_there c.index-hart.ensures 0;
      stop = c.in-Err.stop;
      room = seat.rank.trace.room;
      holds = c.in-Err.ensures.stop;
      rank_stays = ap (λ (v : RankView). v.rank) c.in-Err.ensures.unchanged;
      events_stay = ap (λ (v : RankView). v.events) c.in-Err.ensures.unchanged;
      sides_stay = ap (λ (v : RankView). v.sides) c.in-Err.ensures.unchanged;
      asked_stays = ap (λ (v : RankView). v.asked_box) c.in-Err.ensures.unchanged;
      next_stays = refl;
      budget_stays = c.turn.ensures.budget;
      stops = refl;
    })

pub returns-in-Err-clause-memory : goal.returns-in-Err-clause-memory
returns-in-Err-clause-memory g c = λ memory.
    let seat = c.args.self.now in
    let order = seat.plan.now.order in
    runs_out g.D.Desk.gives seat.plan.now (station seat) c.index-hart.result.now seat.rank.trace.room _ _ c.in-Err.stop
    (get_or_read order.items seat.next c.index-hart.result.now seat.next_there c.index-hart.ensures 0)
    (same_Some _ _ memory) c.in-Err.ensures.stop
