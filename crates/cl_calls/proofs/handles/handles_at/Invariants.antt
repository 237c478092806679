use Rattle.std.proofs.Common.{◌≡◌}
use Rattle.arrayvec.specs.ArrayVec.{array_vec_len}
use Rattle.cl_calls.specs.Handles.{words_at}
use Rattle.cl_calls.proofs.handles.handles_at.Given as goal

abbrev pub invariant-loop-i : goal.invariant-loop-i
invariant-loop-i l = (l.handles.items ≡ words_at l.memory l.array.address l.i) × (array_vec_len l.handles ≡ l.i)
