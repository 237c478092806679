-- Registers that `==` finds equal are the same.
use Rattle.std.proofs.Common.{◌≡◌, Bool, List, ℕ}
use Rattle.std.specs.Bool.{Decides}
use Rattle.std.specs.Prelude.{nat_eq}
use Rattle.std.specs.Cmp.Lexicographic.{pointwise}
use Rattle.std.proofs.lemmas.Bool.Decides.{Decides-eqb}
use Rattle.std.proofs.lemmas.Slice.Eq.{slice_eq-Decides}

pub same_registers : (xs ys : List ℕ) (r : Bool) → r ≡ pointwise nat_eq xs ys → Decides r (xs ≡ ys)
same_registers xs ys r h = slice_eq-Decides Decides-eqb xs ys r h
