use Rattle.std.proofs.Common.{◌≡◌, ℕ, Some}
use Rattle.std.specs.Prelude.{slice_get}
use Rattle.rvmc_list.specs.declared.kept.Kept.{Kept}
use Rattle.rvmc_list.proofs.kept.Texts.new.Given as goal

-- no place has a text
abbrev pub invariant-loop-n : goal.invariant-loop-n
invariant-loop-n l = (k : ℕ) (kept : Kept) → slice_get l.kept.items k ≡ Some (Some kept) → ⊥
