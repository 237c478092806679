use Rattle.std.proofs.Common.{◌≡◌, ◌||◌, not, true, take}
use Rattle.std.specs.List.{list_all}
use Rattle.mp_match.specs.Pairs.{admits}
use Rattle.cl_deadlock_laws.specs.Stuck.{is_among}
use Rattle.cl_deadlock.proofs.among.has_senders.Given as goal

-- each of the members so far that the source admits is one of these
abbrev pub invariant-loop-member : goal.invariant-loop-member
invariant-loop-member l =
    list_all (λ k. not (admits l.source k) || is_among l.among k) (take l.member-index l.members) ≡ true
