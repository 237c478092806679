use Rattle.std.proofs.Common.{◌≡◌, take, vec_len}
use Rattle.cl_calls.proofs.sites.Communicators.try_copy.Given as goal

-- the copies so far are those of the communicators before this one, and as many
abbrev pub invariant-loop-members : goal.invariant-loop-members
invariant-loop-members l =
    (l.lists.items ≡ take l.members-index l.members-items) × (vec_len l.lists ≡ l.members-index)
