-- Bytes that a call writes.
use Rattle.std.specs.Prelude.{ℕ, ◌==◌, if◌then◌else◌, List, length}
use Rattle.rv_memory.specs.Memory.{Memory, with_bytes}
use Rattle.rv_memory.specs.Access.{is_writable}

-- bytes written where they may be; no bytes change nothing, whatever their address
abbrev pub written : Memory → ℕ → List ℕ → Memory
written memory address bytes =
    if is_writable memory address (length bytes)
    then (if (length bytes == 0) then memory else with_bytes memory address bytes)
    else memory
