use Rattle.std.proofs.Common.{ℕ, ◌<◌, ◌≡◌, Some, slice_get, option_map, Option}
use Rattle.mp_alike_laws.specs.Renaming.{Renaming}
use Rattle.mp_alike.specs.Names.{IsListed}
use Rattle.mp_request.specs.declared.entries.OpenRequest.{OpenRequest}
use Rattle.cl_names_laws.specs.Named.{open_by}
use Rattle.cl_alike.proofs.harts.are_alike_slots.Given as goal

-- those before this one correspond
abbrev pub invariant-loop-slot : goal.invariant-loop-slot
invariant-loop-slot l =
    (naming : Renaming) → IsListed naming l.names → (i : ℕ) → i < l.slot → (x y : Option OpenRequest) → slice_get l.slots i ≡ Some x
    → slice_get l.others i ≡ Some y → y ≡ option_map (open_by naming) x
