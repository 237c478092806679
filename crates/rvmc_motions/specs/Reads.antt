-- The bytes that the next turn of a hart reads: those that an instruction loads, or those of a call's buffer.
use Rattle.std.specs.Prelude.{ℕ, ◌+◌, ◌*◌, ◌^◌, ◌%◌, ◌==◌, Bool, ◌&&◌, nat_lt, Option, Some, None, length, if◌then◌else◌}
use Rattle.rv_decode.specs.Decoded.{decoded}
use Rattle.rv_decode.specs.declared.instruction.Instr.{Instr}
use Rattle.rv_decode.specs.declared.instruction.Instr.TheVariants.{Upper, Jal, Jalr, Branch, Load, Store, Imm, Shift}
use Rattle.rv_decode.specs.declared.instruction.Instr.TheVariants.{Arith, Fence, Ecall, Ebreak}
use Rattle.rv_memory.specs.Memory.{Memory}
use Rattle.rv_memory.specs.Access.{load_trap, size_of, word_at}
use Rattle.rv_memory.specs.declared.fault.Cause.{Cause}
use Rattle.rv_hart.specs.Results.{load_width}
use Rattle.rv_hart.specs.State.{State, read}
use Rattle.rv_hart.specs.Effect.{offset}
use Rattle.mp_request.specs.Table.{Table, request_at}
use Rattle.mp_request.specs.declared.entries.OpenRequest.{OpenRequest}
use Rattle.mp_request.specs.declared.entries.Partitions.{Partitions}
use Rattle.mp_request.specs.declared.entries.Transfer.{Transfer}
use Rattle.mp_request.specs.declared.entries.Transfer.TheVariants as transfer
use Rattle.cl_calls.specs.Calls.{no_rank}
use Rattle.cl_calls.specs.Checks.{sending_side}
use Rattle.cl_calls.specs.declared.calls.Call.{Call}
use Rattle.cl_calls.specs.declared.calls.Call.TheVariants as call
use Rattle.cl_calls.specs.declared.calls.Sending.{Sending}
use Rattle.cl_state.specs.Asked.{doing, part_of}
use Rattle.cl_state.specs.Rank.{Rank}
use Rattle.cl_state.specs.declared.asking.Doing.{Doing}
use Rattle.cl_state.specs.declared.asking.Doing.TheVariants as doings
use Rattle.rvmc_motions.specs.declared.reads.Loaded.{Loaded}

abbrev pub nothing : Loaded
nothing = record { address = 0; count = 0 }

-- ---- instructions

-- the bytes of a load by its trap
abbrev pub unless : Option Cause → ℕ → ℕ → Loaded
unless None address size = record { address = address; count = size }
unless (Some cause) address size = nothing

abbrev pub load_at : Memory → ℕ → ℕ → Loaded
load_at m address size = unless (load_trap m address size) address size

-- a load its bytes, unless it traps, and any other instruction nothing
abbrev pub loaded_by : Instr → State → Memory → Loaded
loaded_by (Load op d r off) s m = load_at m (offset (read s r) off) (size_of (load_width op))
loaded_by (Upper op d imm) s m = nothing
loaded_by (Jal d off) s m = nothing
loaded_by (Jalr d r off) s m = nothing
loaded_by (Branch op r t off) s m = nothing
loaded_by (Store op r t off) s m = nothing
loaded_by (Imm op d r imm) s m = nothing
loaded_by (Shift op d r amount) s m = nothing
loaded_by (Arith op d r t) s m = nothing
loaded_by Fence s m = nothing
loaded_by Ecall s m = nothing
loaded_by Ebreak s m = nothing

abbrev pub range_decoded : Option Instr → State → Memory → Loaded
range_decoded None s m = nothing
range_decoded (Some i) s m = loaded_by i s m

abbrev pub range_fetched : Option ℕ → State → Memory → Loaded
range_fetched None s m = nothing
range_fetched (Some word) s m = range_decoded (decoded word) s m

-- the bytes that the instruction at a hart's pc loads
unfoldable pub load_range : State → Memory → Loaded
load_range s m = range_fetched (word_at m s.pc) s m

-- ---- calls

abbrev pub buffer_at : ℕ → ℕ → Loaded
buffer_at address count = record { address = address; count = count }

-- a message is read when it is sent; to the null process nothing is
abbrev pub read_by_sending : Sending → Loaded
read_by_sending s = if s.dest == no_rank then nothing else buffer_at s.buffer s.count

-- and a persistent send's when it is started
abbrev pub read_by_transfer : Transfer → Loaded
read_by_transfer (transfer.Send sync buffer count dest tag comm) = buffer_at buffer count
read_by_transfer _ = nothing

abbrev pub read_by_request : Option OpenRequest → Loaded
read_by_request None = nothing
read_by_request (Some r) = read_by_transfer r.transfer

-- a partition when it is made ready: it stands so many times its size behind the first
abbrev pub read_by_part : ℕ → Option Partitions → Loaded
read_by_part part None = nothing
read_by_part part (Some side) = buffer_at ((side.buffer + part * side.size % 2 ^ 64) % 2 ^ 64) side.size

abbrev pub read_by_call : Table → Call → Loaded
read_by_call requests (call.Put buffer count) = buffer_at buffer count
read_by_call requests (call.Send s) = read_by_sending s
read_by_call requests (call.Ssend s) = read_by_sending s
read_by_call requests (call.Isend s) = read_by_sending s
read_by_call requests (call.Issend s) = read_by_sending s
read_by_call requests (call.Start handle) = read_by_request (request_at requests handle)
read_by_call requests (call.Pready handle part) = read_by_part part (sending_side (request_at requests handle))
read_by_call requests _ = nothing

-- ---- turns

-- a call that is refused reads nothing, nor does one that is asked for once more
abbrev pub read_doing : Rank → State → Doing → Loaded
read_doing rank hart doings.Step = load_range hart rank.memory
read_doing rank hart (doings.Go c) = read_by_call rank.requests c
read_doing rank hart (doings.Refused code) = nothing
read_doing rank hart (doings.Poll c post) = nothing
read_doing rank hart doings.Stopped = nothing

-- the bytes that the next turn of a rank's hart reads
abbrev pub read_by : Rank → ℕ → Loaded
read_by rank hart =
    if nat_lt hart (length rank.harts)
    then read_doing rank (part_of rank hart).hart (doing rank.site (part_of rank hart)) else nothing

-- two ranges have a byte in common
abbrev pub meets : ℕ → ℕ → Loaded → Bool
meets address size loaded = nat_lt loaded.address (address + size) && nat_lt address (loaded.address + loaded.count)
