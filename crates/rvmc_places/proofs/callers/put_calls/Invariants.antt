use Rattle.std.proofs.Common.{◌≡◌, ◌++◌, ◌-◌}
use Rattle.rvmc_places.specs.Callers.{calls_text}
use Rattle.rvmc_places.specs.Frames.{frames, frames_from}
use Rattle.rvmc_places.proofs.callers.put_calls.Given as goal

-- the calls so far, and those of the frames that are left
abbrev pub invariant-loop-number : goal.invariant-loop-number
invariant-loop-number l =
    l.fn.text.items ++ calls_text l.before l.behind l.symbols (frames l.symbols l.memory l.hart)
    ≡ l.text.items ++ calls_text l.before l.behind l.symbols (frames_from l.symbols l.memory (64 - l._number) l.next)
