use Rattle.std.proofs.Common.{◌≡◌, ◌≤◌, ◌++◌, length, vec_capacity}
use Rattle.cl_record.specs.Settling.{AreSettled, Kept}
use Rattle.cl_record.proofs.settling.settle_all.Given as goal

abbrev pub invariant-loop-channel : goal.invariant-loop-channel
invariant-loop-channel l = record {
  rest : l.yielded ++ l.channel-iterator.rest.items ≡ l.fn.channels.items;
  count : length l.boxes.items ≡ length l.yielded;
  room : length l.links ≤ vec_capacity l.boxes;
  kept : Kept l.fn.ends.items l.ends.items (length l.boxes.items) (length l.boxes.items);
  settled : AreSettled l.links l.fn.channels.items l.fn.ends.items l.boxes.items;
}
