use Rattle.std.proofs.Common.{◌≡◌, ◌-◌}
use Rattle.rvmc_places.specs.Frames.{frames, frames_from}
use Rattle.rvmc_places.specs.OwnCalls.{own_call_from}
use Rattle.rvmc_places.proofs.own_calls.own_call_above.Given as goal

-- none of the calls so far has a line
abbrev pub invariant-loop-number : goal.invariant-loop-number
invariant-loop-number l =
    own_call_from l.symbols l.hart.pc (frames l.symbols l.memory l.hart)
    ≡ own_call_from l.symbols l.inner (frames_from l.symbols l.memory (64 - l._number) l.next)
