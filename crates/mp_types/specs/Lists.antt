-- How the bytes of a message stand: few of them in place, more in a list that is shared.
use Rattle.std.specs.Prelude.{ℕ, ◌≡◌, ◌<◌, ◌≤◌, List, length, take}
use Rattle.std.specs.Arc.{arc_slice_items}
use Rattle.mp_types.specs.declared.lists.Body.{Body}
use Rattle.mp_types.specs.declared.lists.Body.TheVariants.{Short, Shared}

-- the bytes that stand so
abbrev pub body_bytes : Body → List ℕ
body_bytes (Short count bytes) = take count bytes
body_bytes (Shared shared) = arc_slice_items shared

-- at most 16 in place, and else more than that, at most 4,096
abbrev pub IsBody : Body → Type 0
IsBody (Short count bytes) = (count ≤ 16) × (length (take count bytes) ≡ count)
IsBody (Shared shared) = (16 < length (arc_slice_items shared)) × (length (arc_slice_items shared) ≤ 4096)
