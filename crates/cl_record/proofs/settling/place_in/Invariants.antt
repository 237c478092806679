use Rattle.std.proofs.Common.{ℕ, ◌≢◌, ◌≡◌, ◌<◌, slice_get, Some}
use Rattle.cl_record.proofs.settling.place_in.Given as goal

abbrev pub invariant-loop-place : goal.invariant-loop-place
invariant-loop-place g l =
    (k : ℕ) (other : ℕ × g.row.S.Denot) → k < l.place → slice_get l.sides k ≡ Some other → other.0 ≢ l.link
