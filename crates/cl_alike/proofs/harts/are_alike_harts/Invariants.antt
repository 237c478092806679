use Rattle.std.proofs.Common.{ℕ, ◌<◌, ◌≡◌, Some, slice_get}
use Rattle.mp_alike_laws.specs.Renaming.{Renaming}
use Rattle.mp_alike.specs.Names.{IsListed}
use Rattle.rv_hart.specs.State.{State}
use Rattle.cl_names_laws.specs.Named.{hart_by}
use Rattle.cl_alike.proofs.harts.are_alike_harts.Given as goal

-- those before this one correspond
abbrev pub invariant-loop-hart : goal.invariant-loop-hart
invariant-loop-hart l =
    (naming : Renaming) → IsListed naming l.names → (i : ℕ) → i < l.hart → (x y : State) → slice_get l.harts i ≡ Some x
    → slice_get l.others i ≡ Some y → y ≡ hart_by naming x
