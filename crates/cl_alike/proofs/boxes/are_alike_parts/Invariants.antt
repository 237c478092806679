use Rattle.std.proofs.Common.{ℕ, ◌<◌, ◌≡◌, Some, slice_get}
use Rattle.part_box.specs.declared.settled.Settled.{Settled}
use Rattle.cl_alike.specs.Boxes.{IsAlikeSettled}
use Rattle.cl_alike.proofs.boxes.are_alike_parts.Given as goal

-- those before this one are alike
abbrev pub invariant-loop-part : goal.invariant-loop-part
invariant-loop-part l =
    (i : ℕ) → i < l.part → (s t : Settled) → slice_get l.parts i ≡ Some s → slice_get l.others i ≡ Some t
    → IsAlikeSettled s t
