use Rattle.std.proofs.Common.{ℕ, ◌<◌, ◌≡◌, List, Some, slice_get}
use Rattle.part_box.specs.declared.settled.Settled.{Settled}
use Rattle.cl_alike.specs.Boxes.{AreAlikeParts}
use Rattle.cl_alike.proofs.boxes.are_alike_boxes.Given as goal

-- those before this one are alike
abbrev pub invariant-loop-link : goal.invariant-loop-link
invariant-loop-link l =
    (i : ℕ) → i < l.link → (s t : List Settled) → slice_get l.boxes i ≡ Some s → slice_get l.others i ≡ Some t
    → AreAlikeParts s t
