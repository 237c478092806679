use Rattle.std.proofs.Common.{◌≡◌, ◌∙◌, ◌%◌, ◌<◌, arith, List, [], length, refl, subst, sym, ap}
use Rattle.std.specs.Prelude.{None}
use Rattle.std.proofs.Math.Nat.{zero-mod}
use Rattle.cl_trace.specs.declared.events.Event.{Event}
use Rattle.cl_rank.specs.RankSides.{AreChannelsOf}
use Rattle.cl_rank.specs.Views.{view_of}
use Rattle.cl_rank.specs.declared.stops.Stop.{Stop}
use Rattle.cl_record.specs.Seats.{station}
use Rattle.cl_record.specs.declared.plans.Plan.{Plan}
use Rattle.cl_record.specs.declared.seats.Seat.{Seat}
use Rattle.cl_threads.proofs.Turning.{WentOn, WentSoFar, by_cut, by_own, cut_of, no_turns_yet, seat_stopped, seat_went}
use Rattle.cl_threads.proofs.Turning.{told_by, turn_went}
use Rattle.cl_threads.specs.OnThreads.{WentBy}
use Rattle.cl_threads.proofs.turns.take_turns.Goals as goal
use Rattle.cl_threads.proofs.turns.take_turns.Goals.{After-run_plain-done, After-turn-goes_on}

-- the plain turns of one time round
plain_turns : (g : _) (c : After-run_plain-done g)
    → WentOn c.args.seat.now.plan.now (view_of c.args.seat.now.rank) (station c.loop-desk.seat) c.run_plain-done.result
    (station c.run_plain-done.new.self)
plain_turns g c =
    let kept = c.loop-desk.invariant in
    seat_went c.args.seat.now c.loop-desk.seat c.run_plain-done.new.self c.run_plain-done.result kept.went kept.plan_is
    kept.next_is kept.runs c.run_plain-done.ensures.turns

-- they change no plan
plan_stays : (g : _) (c : After-run_plain-done g) → c.run_plain-done.new.self.plan.now ≡ c.args.seat.now.plan.now
plan_stays g c = c.run_plain-done.ensures.plan ∙ c.loop-desk.invariant.plan_is

-- the turn behind them
turned : (g : _) (c : After-turn-goes_on g)
    → WentOn c.args.seat.now.plan.now (view_of c.args.seat.now.rank) (station c.loop-desk.seat) c.run_plain-done.result
    (station c.run_plain-done.new.self)
    → c.run_plain-done.new.self.plan.now ≡ c.args.seat.now.plan.now → c.turn-goes_on.new.self.stop ≡ None
    → WentOn c.args.seat.now.plan.now (view_of c.args.seat.now.rank) (station c.run_plain-done.new.self) 1
    (station c.turn-goes_on.new.self)
turned g c so same on =
    turn_went _ c.args.seat.now c.run_plain-done.new.self c.turn-goes_on.new.self _ _ so.went same so.next_is on
    c.turn-goes_on.ensures.goes

pub loop-desk-init : goal.loop-desk-init
loop-desk-init g c = record {
  went = ([], no_turns_yet c.args.seat.now.plan.now c.args.seat.now c.requires.no_events);
  plan_is = refl;
  runs = c.requires.runs;
  over = c.requires.over;
  next_is = c.requires.first_place ∙ sym (zero-mod (length c.args.seat.now.plan.now.order.items))
      ∙ ap (λ (es : List Event). length es % length c.args.seat.now.plan.now.order.items) (sym c.requires.no_events);
}

pub turn-goes_on-requires-clause-running : goal.turn-goes_on-requires-clause-running
turn-goes_on-requires-clause-running g c =
    (plain_turns g (goal.at.turn-goes_on-requires-clause-running g c).After-run_plain-done).runs

pub turn-goes_on-requires-clause-channels : goal.turn-goes_on-requires-clause-channels
turn-goes_on-requires-clause-channels g c =
    c.run_plain-done.ensures.channels c.args.channels.now c.loop-desk.invariant.over

pub loop-desk-preserved-then-done-free : goal.loop-desk-preserved-then-done-free
loop-desk-preserved-then-done-free g c =
    let after = (goal.at.loop-desk-preserved-then-done-free g c).After-run_plain-done in
    let on = plain_turns g after in
    record {
      went = on.went;
      plan_is = plan_stays g after;
      runs = on.runs;
      over = c.run_plain-done.ensures.channels c.args.channels.now c.loop-desk.invariant.over;
      next_is = on.next_is;
    }

pub loop-desk-smaller-then-done-free : goal.loop-desk-smaller-then-done-free
loop-desk-smaller-then-done-free g c =
    let on = plain_turns g (goal.at.loop-desk-smaller-then-done-free g c).After-run_plain-done in
    let plain = on.longer in
    let within = on.went.1.in_budget in
    omega (arith, c.if-done-gt0.true, plain, within)

pub returns-then-not-goes_on-clause-went : goal.returns-then-not-goes_on-clause-went
returns-then-not-goes_on-clause-went g c =
    let after = (goal.at.returns-then-not-goes_on-clause-went g c).After-run_plain-done in
    let on = plain_turns g after in
    let plan = c.args.seat.now.plan.now in
    let h = seat_stopped _ c.args.seat.now c.run_plain-done.new.self c.turn-goes_on.new.self _ _ on.went
    (plan_stays g after) on.next_is (c.turn-goes_on.ensures.end c.if-not-goes_on.true) c.turn-goes_on.ensures.goes in
    (h.0, h.1, plan, h.2, by_own c.args.until plan h.1, h.3)

pub loop-desk-preserved : goal.loop-desk-preserved
loop-desk-preserved g c =
    let at = goal.at.loop-desk-preserved g c in
    let plan = c.args.seat.now.plan.now in
    let old = view_of c.args.seat.now.rank in
    let goes_on = c.turn-goes_on.ensures.on c.if-not-goes_on.false in
    let after = at.After-run_plain-done in
    let on = turned g at.After-turn-goes_on (plain_turns g after) (plan_stays g after) goes_on in
    let stays : c.turn-goes_on.new.self ≡ c.attend.new.seat = sym (c.attend.ensures.same c.if-attend.false) in
    record {
      went = (on.went.0, subst (λ (s : Seat). WentSoFar plan old (station s) on.went.0) stays on.went.1);
      plan_is = ap (λ (s : Seat). s.plan.now) (sym stays)
          ∙ (c.turn-goes_on.ensures.plan ∙ plan_stays g after);
      runs = ap (λ (s : Seat). s.stop) (sym stays) ∙ goes_on;
      over = subst (λ (s : Seat). AreChannelsOf (station s).rank.site.version c.args.channels.now (station s).sides) stays
          c.turn-goes_on.ensures.channels;
      next_is = subst (λ (s : Seat). s.next ≡ length s.rank.trace.events % length plan.order.items) stays on.next_is;
    }

pub loop-desk-smaller : goal.loop-desk-smaller
loop-desk-smaller g c =
    let at = goal.at.loop-desk-smaller g c in
    let so = plain_turns g at.After-run_plain-done in
    let on = turned g at.After-turn-goes_on so (plan_stays g at.After-run_plain-done)
    (c.turn-goes_on.ensures.on c.if-not-goes_on.false) in
    let plain = so.longer in
    let more = on.longer in
    let within = on.went.1.in_budget in
    let later = ap (λ (s : Seat). length s.rank.trace.events) (c.attend.ensures.same c.if-attend.false) in
    omega (arith, more, plain, within, later)

-- it was told to stop behind its turn
pub returns-then-attend-clause-went : goal.returns-then-attend-clause-went
returns-then-attend-clause-went g c =
    let at = goal.at.returns-then-attend-clause-went g c in
    let plan = c.args.seat.now.plan.now in
    let old = view_of c.args.seat.now.rank in
    let new = c.turn-goes_on.new.self in
    let same = plan_stays g at.After-run_plain-done in
    let on = turned g at.After-turn-goes_on (plain_turns g at.After-run_plain-done) same
    (c.turn-goes_on.ensures.on c.if-not-goes_on.false) in
    let told = c.attend.ensures.told c.if-attend.true in
    let events = (station new).events in
    let fewer : length events < plan.budget =
    subst (λ (p : Plan). length events < p.budget)
    (c.turn-goes_on.ensures.plan ∙ same) told.1.fewer in
    let went = told_by plan old new on.went.0 on.went.1 told.1.runs in (
      on.went.0,
      Stop.Budget,
      cut_of plan events,
      told.1.stops,
      by_cut c.args.until plan events told.0 told.1.some fewer,
      subst (λ rank. WentBy (cut_of plan events) old (view_of rank) Stop.Budget on.went.0) (sym told.1.rank_stays) went,
    )

pub returns-then-attend-clause-over : goal.returns-then-attend-clause-over
returns-then-attend-clause-over g c =
    let told = c.attend.ensures.told c.if-attend.true in
    subst (λ rank. AreChannelsOf (view_of rank).rank.site.version c.args.channels.now (view_of rank).sides)
    (sym told.1.rank_stays) c.turn-goes_on.ensures.channels
