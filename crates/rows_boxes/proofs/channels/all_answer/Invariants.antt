-- Between two calls: both sides are the channel's, and the clock is past all stamps of the sender.
use Rattle.std.proofs.Common.{◌≡◌, map}
use Rattle.part_channel.specs.Channels.{receiver_box}
use Rattle.part_channel.specs.Sending.{IsPast}
use Rattle.rows_boxes.specs.Channels.{IsSideOf}
use Rattle.rows_boxes.proofs.channels.all_answer.Given as goal

abbrev pub invariant-loop-i : goal.invariant-loop-i
invariant-loop-i l = record {
  side : IsSideOf l.channel l.size l.send;
  own : map receiver_box l.recv.keys ≡ l.channel.boxes;
  past : IsPast l.send l.clock;
}
