-- The bytes that an instruction stores, and those that the next step stores.
use Rattle.std.specs.Prelude.{ℕ, Option, Some, None}
use Rattle.rv_decode.specs.Decoded.{decoded}
use Rattle.rv_decode.specs.declared.instruction.Instr.{Instr}
use Rattle.rv_decode.specs.declared.instruction.Instr.TheVariants.{Upper, Jal, Jalr, Branch, Load, Store, Imm, Shift}
use Rattle.rv_decode.specs.declared.instruction.Instr.TheVariants.{Arith, Fence, Ecall, Ebreak}
use Rattle.rv_memory.specs.Memory.{Memory}
use Rattle.rv_memory.specs.Access.{size_of, store_trap, word_at}
use Rattle.rv_memory.specs.Present.{IsPresent}
use Rattle.rv_memory.specs.declared.fault.Cause.{Cause}
use Rattle.rv_hart.specs.Results.{store_width}
use Rattle.rv_hart.specs.State.{State, read}
use Rattle.rv_hart.specs.Effect.{offset}
use Rattle.rv_hart.specs.declared.stores.StoreRange.{StoreRange}

abbrev pub nothing : StoreRange
nothing = record { address = 0; count = 0 }

-- the bytes of a store by its trap
abbrev pub unless : Option Cause → ℕ → ℕ → StoreRange
unless None address size = record { address = address; count = size }
unless (Some cause) address size = nothing

abbrev pub store_at : Memory → ℕ → ℕ → StoreRange
store_at m address size = unless (store_trap m address size) address size

-- what an instruction stores: a store its bytes, unless it traps, and any other nothing
abbrev pub stored_by : Instr → State → Memory → StoreRange
stored_by (Store op r t off) s m = store_at m (offset (read s r) off) (size_of (store_width op))
stored_by (Upper op d imm) s m = nothing
stored_by (Jal d off) s m = nothing
stored_by (Jalr d r off) s m = nothing
stored_by (Branch op r t off) s m = nothing
stored_by (Load op d r off) s m = nothing
stored_by (Imm op d r imm) s m = nothing
stored_by (Shift op d r amount) s m = nothing
stored_by (Arith op d r t) s m = nothing
stored_by Fence s m = nothing
stored_by Ecall s m = nothing
stored_by Ebreak s m = nothing

abbrev pub range_decoded : Option Instr → State → Memory → StoreRange
range_decoded None s m = nothing
range_decoded (Some i) s m = stored_by i s m

abbrev pub range_fetched : Option ℕ → State → Memory → StoreRange
range_fetched None s m = nothing
range_fetched (Some word) s m = range_decoded (decoded word) s m

-- what the next step stores
unfoldable pub store_range : State → Memory → StoreRange
store_range s m = range_fetched (word_at m s.pc) s m

-- all pages of a range are there
abbrev pub IsThere : Memory → StoreRange → Type 0
IsThere m range = IsPresent m range.address range.count
