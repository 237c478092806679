-- The ways out of a function, by which the frame is found of one that keeps no frame pointer. By the RISC-V ELF psABI
-- (Integer Register Convention) every way to a function's return restores sp (x2) and s0 (x8) and has the return address
-- in ra (x1), so that any of them tells the three.
use Rattle.std.proofs.Common.{zero, suc}
use Rattle.std.specs.Prelude.{ℕ, ◌+◌, ◌-◌, ◌*◌, ◌/◌, ◌%◌, ◌^◌, ◌==◌, ◌&&◌, ◌||◌, not, if◌then◌else◌, Bool, false, ℤ, pos}
use Rattle.std.specs.Prelude.{Option, None, Some, option_and_then}
use Rattle.rv_decode.specs.Decoded.{decoded}
use Rattle.rv_decode.specs.declared.instruction.ArithOp.{ArithOp}
use Rattle.rv_decode.specs.declared.instruction.ArithOp.TheVariants.{Add}
use Rattle.rv_decode.specs.declared.instruction.ImmOp.{ImmOp}
use Rattle.rv_decode.specs.declared.instruction.ImmOp.TheVariants.{Addi}
use Rattle.rv_decode.specs.declared.instruction.Instr.{Instr}
use Rattle.rv_decode.specs.declared.instruction.Instr.TheVariants.{Upper, Jal, Jalr, Branch, Load, Store, Imm, Shift}
use Rattle.rv_decode.specs.declared.instruction.Instr.TheVariants.{Arith, Fence, Ecall, Ebreak}
use Rattle.rv_decode.specs.declared.instruction.LoadOp.{LoadOp}
use Rattle.rv_decode.specs.declared.instruction.LoadOp.TheVariants.{Ld}
use Rattle.rv_decode.specs.declared.instruction.ShiftOp.{ShiftOp}
use Rattle.rv_decode.specs.declared.instruction.ShiftOp.TheVariants.{Slli}
use Rattle.rv_decode.specs.declared.instruction.StoreOp.{StoreOp}
use Rattle.rv_decode.specs.declared.instruction.StoreOp.TheVariants.{Sd}
use Rattle.rv_decode.specs.declared.instruction.UpperOp.{UpperOp}
use Rattle.rv_decode.specs.declared.instruction.UpperOp.TheVariants.{Lui, Auipc}
use Rattle.rv_hart.specs.Effect.{next, offset}
use Rattle.rv_hart.specs.Numbers.{in_64}
use Rattle.rv_hart.specs.State.{State, read, write, at_pc}
use Rattle.rv_memory.specs.Access.{is_readable, word_at}
use Rattle.rv_memory.specs.Memory.{Memory, value_at}
use Rattle.rvmc_places.specs.declared.frames.Frame.{Frame}
use Rattle.rvmc_places.specs.declared.ways.Spot.{Spot}
use Rattle.rvmc_places.specs.declared.ways.Progress.{Progress}
use Rattle.rvmc_places.specs.declared.ways.Progress.TheVariants.{On, Out, Lost}

-- the instruction at an address of the text
abbrev pub instruction_at : Memory → ℕ → Option Instr
instruction_at memory at = option_and_then decoded (word_at memory at)

-- ---- one instruction of a way

-- at another instruction
abbrev pub goes_to : ℕ → Spot → Progress
goes_to pc spot = On (record spot { hart = at_pc spot.hart pc })

-- at the next one
abbrev pub goes_on : Spot → Progress
goes_on spot = goes_to (next spot.hart) spot

-- with a value in a register
abbrev pub gives : ℕ → ℕ → Spot → Progress
gives rd value spot = goes_on (record spot { hart = write spot.hart rd value })

-- with a value in a register that isn't followed: where sp is, has to be known
abbrev pub leaves : ℕ → Spot → Progress
leaves rd spot = if (rd == 2) then Lost else goes_on spot

-- JAL: a jump; a call, behind which the way goes on; or a call whose return address is in t0 (x5), as that of
-- `__riscv_save_2`, which stores a function's registers for it
abbrev pub calls_by_t0 : ℕ → Spot → Progress
calls_by_t0 target spot = goes_to target (record spot { hart = write spot.hart 5 (next spot.hart) })

abbrev pub jal : ℕ → ℕ → Spot → Progress
jal rd target spot =
    if (rd == 0) then goes_to target spot
    else (if (rd == 1) then goes_on spot else (if (rd == 5) then calls_by_t0 target spot else Lost))

-- JALR: a call; the return; the return by t0; or a jump by a table, behind which stands one of the cases
abbrev pub jalr : ℕ → ℕ → ℤ → Spot → Progress
jalr rd rs1 off spot =
    if not (rd == 0) then (if (rd == 1) then goes_on spot else Lost)
    else (if (rs1 == 1) then Out spot.hart
    else (if (rs1 == 5) then goes_to (offset (read spot.hart 5) off) spot else goes_on spot))

-- a branch: the lowest of 8 binary digits says whether the way jumps here, and the others whether it does at the
-- branches that come, over and over
abbrev pub turned : Spot → Spot
turned spot = record spot { jumps = spot.jumps / 2 + spot.jumps % 2 * 128 }

abbrev pub branch : ℕ → Spot → Progress
branch target spot = if (spot.jumps % 2 == 1) then goes_to target (turned spot) else goes_on (turned spot)

-- what a load restores: what the way itself has stored, or else what the memory has there
abbrev pub restored : Option ℕ → Memory → ℕ → Option ℕ
restored (Some stored) memory address = Some stored
restored None memory address =
    if is_readable memory address 8 then Some (value_at memory.bytes address 8) else None

abbrev pub restores_ra : Option ℕ → Spot → Progress
restores_ra None spot = Lost
restores_ra (Some value) spot = gives 1 value (record spot { ra = None })

abbrev pub restores_s0 : Option ℕ → Spot → Progress
restores_s0 None spot = Lost
restores_s0 (Some value) spot = gives 8 value (record spot { s0 = None })

-- LD from the stack
abbrev pub pops : Memory → ℕ → ℕ → Spot → Progress
pops memory rd address spot =
    if (rd == 1) then restores_ra (restored spot.ra memory address) spot
    else (if (rd == 8) then restores_s0 (restored spot.s0 memory address) spot else leaves rd spot)

-- SD to the stack
abbrev pub pushes : ℕ → Spot → Progress
pushes rs2 spot =
    if (rs2 == 1) then goes_on (record spot { ra = Some (read spot.hart 1) })
    else (if (rs2 == 8) then goes_on (record spot { s0 = Some (read spot.hart 8) }) else goes_on spot)

-- a sum: sp's is followed where it is one of sp, s0, t0 (x5) and t1 (x6), which have a frame's size where it is large and
-- in `__riscv_save_2`
abbrev pub is_followed : ℕ → Bool
is_followed rs = (rs == 2) || (rs == 5) || (rs == 6) || (rs == 8)

abbrev pub adds : Bool → ℕ → ℕ → Spot → Progress
adds followed rd value spot = if (rd == 2) && not followed then Lost else gives rd value spot

-- loads, stores, and what computes
abbrev pub loads : Memory → LoadOp → ℕ → ℕ → ℤ → Spot → Progress
loads memory Ld rd rs1 off spot =
    if (rs1 == 2) then pops memory rd (offset (read spot.hart 2) off) spot else leaves rd spot
loads memory op rd rs1 off spot = leaves rd spot

abbrev pub stores : StoreOp → ℕ → ℕ → Spot → Progress
stores Sd rs1 rs2 spot = if (rs1 == 2) then pushes rs2 spot else goes_on spot
stores op rs1 rs2 spot = goes_on spot

abbrev pub uppers : UpperOp → ℕ → ℤ → Spot → Progress
uppers Lui rd imm spot = gives rd (in_64 imm) spot
uppers Auipc rd imm spot = leaves rd spot

abbrev pub imms : ImmOp → ℕ → ℕ → ℤ → Spot → Progress
imms Addi rd rs1 imm spot = adds (is_followed rs1) rd (offset (read spot.hart rs1) imm) spot
imms op rd rs1 imm spot = leaves rd spot

abbrev pub shifts : ShiftOp → ℕ → ℕ → ℕ → Spot → Progress
shifts Slli rd rs1 amount spot = adds false rd (in_64 (pos (read spot.hart rs1 * 2 ^ amount))) spot
shifts op rd rs1 amount spot = leaves rd spot

abbrev pub ariths : ArithOp → ℕ → ℕ → ℕ → Spot → Progress
ariths Add rd rs1 rs2 spot =
    adds (is_followed rs1 && is_followed rs2) rd (in_64 (pos (read spot.hart rs1 + read spot.hart rs2))) spot
ariths op rd rs1 rs2 spot = leaves rd spot

-- one instruction
abbrev pub followed : Memory → Instr → Spot → Progress
followed memory (Jal rd off) spot = jal rd (offset spot.hart.pc off) spot
followed memory (Jalr rd rs1 off) spot = jalr rd rs1 off spot
followed memory (Branch op rs1 rs2 off) spot = branch (offset spot.hart.pc off) spot
followed memory (Load op rd rs1 off) spot = loads memory op rd rs1 off spot
followed memory (Store op rs1 rs2 off) spot = stores op rs1 rs2 spot
followed memory (Upper op rd imm) spot = uppers op rd imm spot
followed memory (Imm op rd rs1 imm) spot = imms op rd rs1 imm spot
followed memory (Shift op rd rs1 amount) spot = shifts op rd rs1 amount spot
followed memory (Arith op rd rs1 rs2) spot = ariths op rd rs1 rs2 spot
followed memory Fence spot = goes_on spot
followed memory Ecall spot = goes_on spot
followed memory Ebreak spot = goes_on spot

abbrev pub followed_some : Memory → Option Instr → Spot → Progress
followed_some memory None spot = Lost
followed_some memory (Some instruction) spot = followed memory instruction spot

unfoldable pub advanced : Memory → Spot → Progress
advanced memory spot = followed_some memory (instruction_at memory spot.hart.pc) spot

-- ---- a way

-- the frame of the function that a hart is at the end of
abbrev pub frame_out : State → Frame
frame_out hart = record { pointer = read hart 2; back = read hart 1; above = read hart 8 }

-- whether an instruction is a call
abbrev pub is_call : Option Instr → Bool
is_call (Some (Jal rd off)) = rd == 1
is_call (Some (Jalr rd rs1 off)) = rd == 1
is_call other = false

-- where the function of a frame was called: at the instruction before the one that it returns to
abbrev pub called_at : Frame → ℕ
called_at frame = frame.back - 4

-- the frame at the end of a way, which leads behind a call
abbrev pub led : Memory → State → Option Frame
led memory hart =
    if is_call (instruction_at memory (called_at (frame_out hart))) then Some (frame_out hart) else None

-- where a way of so many more instructions leads
abbrev pub leads : Memory → ℕ → Progress → Option Frame
leads memory left Lost = None
leads memory left (Out hart) = led memory hart
leads memory zero (On spot) = None
leads memory (suc left) (On spot) = leads memory left (advanced memory spot)

-- a way is where it begins, and its number, which says at which branches it jumps
abbrev pub begin : State → ℕ → Progress
begin hart number = On (record { hart = hart; ra = None; s0 = None; jumps = number })

-- 512 instructions at most
unfoldable pub way : Memory → State → ℕ → Option Frame
way memory hart number = leads memory 512 (begin hart number)

-- the first of the last ways, so many of 256, that leads out, where none of those before did
abbrev pub way_among : Memory → State → ℕ → Option Frame → Option Frame
way_among memory hart left (Some frame) = Some frame
way_among memory hart zero None = None
way_among memory hart (suc left) None = way_among memory hart left (way memory hart (255 - left))

unfoldable pub way_out : Memory → State → Option Frame
way_out memory hart = way_among memory hart 256 None
