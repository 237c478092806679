use Rattle.std.proofs.Common.{◌≡◌, ◌≤◌, ◌-◌, take, length}
use Rattle.std.specs.Prelude.{map}
use Rattle.rv_memory.specs.Held.{is_there, all_bytes, shown, AreWhole}
use Rattle.rv_memory.specs.Memory.{overwritten}
use Rattle.rv_memory.proofs.pages.fill.Given as goal

abbrev pub invariant-loop-done : goal.invariant-loop-done
invariant-loop-done l = record {
  bytes : all_bytes (shown l.text l.pages.items) ≡ overwritten (all_bytes (shown l.text l.fn.pages.items)) l.address (take l.done l.bytes);
  there : map is_there (shown l.text l.pages.items) ≡ map is_there (shown l.text l.fn.pages.items);
  whole : AreWhole (shown l.text l.pages.items);
  long : length l.pages.items ≡ length l.fn.pages.items;
  inside : l.done ≤ length l.bytes;
}

abbrev pub decreases-loop-done : goal.decreases-loop-done
decreases-loop-done l = length l.bytes - l.done
