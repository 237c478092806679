use Rattle.std.proofs.Common.{◌≡◌, ℕ, [], Some, length, slice_get}
use Rattle.cl_record.specs.declared.wiring.Ends.{Ends}
use Rattle.cl_record.proofs.wiring.Wiring.new.Given as goal

abbrev pub invariant-loop-rank : goal.invariant-loop-rank
invariant-loop-rank l = record {
  count : length l.ends.items ≡ l._rank;
  none : (r : ℕ) (ends : Ends) → slice_get l.ends.items r ≡ Some ends → (ends.sends.items ≡ [])
      × (ends.recvs.items ≡ []);
}
