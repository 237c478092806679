-- A message that was taken out, and once more.
use Rattle.std.specs.Prelude.{◌≡◌, ◌≤◌, Option, Some, None}
use Rattle.mp_types.specs.Carried.{carried_by_message}
use Rattle.mp_types.specs.declared.messages.Message.{Message}

-- there is none that doesn't stand in place, or it is there once more
abbrev pub IsTwinOf : Option Message → Option Message → Type 0
IsTwinOf message None = carried_by_message message ≤ 16
IsTwinOf message (Some twin) = message ≡ Some twin
