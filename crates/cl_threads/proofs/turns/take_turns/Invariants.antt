use Rattle.std.proofs.Common.{◌≡◌, ◌%◌, ◌-◌, List, None, length}
use Rattle.cl_deeds.specs.Deeds.{Deed}
use Rattle.cl_rank.specs.RankSides.{AreChannelsOf}
use Rattle.cl_rank.specs.Views.{view_of}
use Rattle.cl_record.specs.Seats.{station}
use Rattle.cl_threads.proofs.Turning.{WentSoFar}
use Rattle.cl_threads.proofs.turns.take_turns.Given as goal

abbrev pub invariant-loop-desk : goal.invariant-loop-desk
invariant-loop-desk g l = record {
  went : (deeds : List Deed) × WentSoFar l.fn.seat.plan.now (view_of l.fn.seat.rank) (station l.seat) deeds;
  plan_is : l.seat.plan.now ≡ l.fn.seat.plan.now;
  runs : l.seat.stop ≡ None;
  over : AreChannelsOf (station l.seat).rank.site.version l.channels (station l.seat).sides;
  next_is : l.seat.next ≡ length l.seat.rank.trace.events % length l.fn.seat.plan.now.order.items;
}

abbrev pub decreases-loop-desk : goal.decreases-loop-desk
decreases-loop-desk g l = l.fn.seat.plan.now.budget - length l.seat.rank.trace.events
