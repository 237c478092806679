use Rattle.std.proofs.Common.{◌≡◌, ℕ, ◌<◌}
use Rattle.std.specs.Prelude.{slice_get, Some}
use Rattle.cl_debug.proofs.breaks.has_break.Given as goal

-- none of the breaks before this one is it
abbrev pub invariant-loop-set : goal.invariant-loop-set
invariant-loop-set l =
    (k : ℕ) → k < l.set-index → slice_get l.breaks k ≡ Some (record { rank = l.rank; hart = l.hart; pc = l.pc }) → ⊥
