-- A table of requests that is kept: what its handles named, up to the last that was open.
use Rattle.std.specs.Prelude.{ℕ, ◌-◌, ◌++◌, List, Option, None, length, replicate}
use Rattle.mp_request.specs.declared.entries.OpenRequest.{OpenRequest}
use Rattle.mp_request.specs.Table.{Table}

-- the handles behind the list name nothing
abbrev pub whole_table : List (Option OpenRequest) → Table
whole_table slots = slots ++ replicate (255 - length slots) None
