-- What the code's type of instructions holds.
use Rattle.std.specs.Prelude.{◌<◌}
use Rattle.std.specs.Int.{w32}
use Rattle.std.specs.Prelude.{FitsSigned}
use Rattle.rv_decode.specs.declared.instruction.Instr.{Instr}
use Rattle.rv_decode.specs.declared.instruction.Instr.TheVariants.{Upper, Jal, Jalr, Branch, Load, Store, Imm, Shift}
use Rattle.rv_decode.specs.declared.instruction.Instr.TheVariants.{Arith}

-- registers from x0 to x31, and an upper immediate of 32 bits
abbrev pub IsInRange : Instr → Type 0
IsInRange (Upper op d imm) = (d < 32) × FitsSigned w32 imm
IsInRange (Jal d off) = d < 32
IsInRange (Jalr d s off) = (d < 32) × (s < 32)
IsInRange (Branch op s t off) = (s < 32) × (t < 32)
IsInRange (Load op d s off) = (d < 32) × (s < 32)
IsInRange (Store op s t off) = (s < 32) × (t < 32)
IsInRange (Imm op d s imm) = (d < 32) × (s < 32)
IsInRange (Shift op d s amount) = (d < 32) × (s < 32)
IsInRange (Arith op d s t) = (d < 32) × (s < 32) × (t < 32)
IsInRange _ = Unit {0}
