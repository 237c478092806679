-- Marks that `==` finds equal are the same.
use Rattle.std.proofs.Common.{◌≡◌, Bool, List}
use Rattle.std.specs.Bool.{Decides}
use Rattle.std.proofs.Math.Bool.{beq}
use Rattle.std.specs.Cmp.{booleans_Decides}
use Rattle.std.specs.Cmp.Lexicographic.{pointwise}
use Rattle.std.proofs.lemmas.Slice.Eq.{slice_eq-Decides}

pub same_marks : (xs ys : List Bool) (r : Bool) → r ≡ pointwise beq xs ys → Decides r (xs ≡ ys)
same_marks xs ys r h = slice_eq-Decides booleans_Decides xs ys r h
