use Rattle.std.proofs.Common.{◌≡◌, ◌++◌, take}
use Rattle.cl_state.proofs.loading.add_comms.Given as goal

abbrev pub invariant-loop-i : goal.invariant-loop-i
invariant-loop-i l = l.lists.items ≡ l.initial.lists.items ++ take l.i l.comms
