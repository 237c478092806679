use Rattle.std.proofs.Common.{ℕ, ◌<◌, get_or}
use Rattle.rv_decode.specs.declared.instruction.Instr.{Instr}
use Rattle.rv_asm_print_laws.specs.Range.{IsInRange}
use Rattle.rv_asm_print_laws.proofs.range.all_in_range.Given as goal

abbrev pub invariant-loop-instr : goal.invariant-loop-instr
invariant-loop-instr l = (k : ℕ) (d : Instr) → k < l.instr-index → IsInRange (get_or l.instrs k d)
