-- The handles of an array (MPI 4.1, chapter 3.7.5).
use Rattle.std.specs.Prelude.{ℕ, zero, suc, ◌+◌, ◌*◌, List, [], ◌∷◌, ◌++◌}
use Rattle.rv_memory.specs.Memory.{Memory, value_at}
use Rattle.cl_calls.specs.declared.needs.Array.{Array}

-- the first n words of 8 bytes from an address on
abbrev pub words_at : Memory → ℕ → ℕ → List ℕ
words_at memory address zero = []
words_at memory address (suc n) = words_at memory address n ++ value_at memory.bytes (address + 8 * n) 8 ∷ []

abbrev pub handles_in : Memory → Array → List ℕ
handles_in memory handles = words_at memory handles.address handles.count
