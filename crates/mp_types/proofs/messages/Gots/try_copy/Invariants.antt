use Rattle.std.proofs.Common.{◌≡◌, take}
use Rattle.mp_types.proofs.messages.Gots.try_copy.Given as goal

-- the copies so far are those of the messages before this one
abbrev pub invariant-loop-got : goal.invariant-loop-got
invariant-loop-got l = l.items.items ≡ take l.got-index l.got-items
