use Rattle.std.proofs.Common.{◌≡◌, None}
use Rattle.mp_match.specs.InnerQueued.{least_accepted}
use Rattle.mp_match.proofs.post_queues.least_within.Given as goal

-- the queues so far leave the rest to be looked at with the least of them
abbrev pub invariant-loop-key : goal.invariant-loop-key
invariant-loop-key l =
    least_accepted l.selection l.best l.key-iterator ≡ least_accepted l.selection None l.fn.rest
