-- The numbers of the causes, as in the register mcause (RISC-V Privileged ISA, Machine Cause Register).
use Rattle.std.specs.Prelude.{ℕ}
use Rattle.rv_memory.specs.declared.fault.Cause.{Cause}
use Rattle.rv_memory.specs.declared.fault.Cause.TheVariants.{InstructionMisaligned, InstructionAccess}
use Rattle.rv_memory.specs.declared.fault.Cause.TheVariants.{IllegalInstruction, Breakpoint, LoadMisaligned, LoadAccess}
use Rattle.rv_memory.specs.declared.fault.Cause.TheVariants.{StoreMisaligned, StoreAccess}

abbrev pub cause_number : Cause → ℕ
cause_number InstructionMisaligned = 0
cause_number InstructionAccess = 1
cause_number IllegalInstruction = 2
cause_number Breakpoint = 3
cause_number LoadMisaligned = 4
cause_number LoadAccess = 5
cause_number StoreMisaligned = 6
cause_number StoreAccess = 7
