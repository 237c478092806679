use Rattle.std.proofs.Common.{◌≡◌, ◌+◌, ◌*◌, ◌≤◌, length}
use Rattle.cl_state.specs.Writes.{messages_then, missing_for, statuses_from}
use Rattle.cl_state.proofs.turn.Turn.missing_several.Given as goal

abbrev pub invariant-loop-handle : goal.invariant-loop-handle
invariant-loop-handle l =
    let last = statuses_from l.several.statuses (length l.initial.rest) in
    record {
      missing :
          l.missing + missing_for l.self.memory.now.pages (messages_then l.self.requests.now l.rest last)
          ≡ missing_for l.self.memory.now.pages (messages_then l.self.requests.now l.initial.rest last);
      few : l.missing + 256 * length l.rest ≤ 65280;
    }

abbrev pub decreases-loop-handle : goal.decreases-loop-handle
decreases-loop-handle l = length l.rest
