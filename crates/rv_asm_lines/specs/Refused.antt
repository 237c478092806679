-- Want of memory.
use Rattle.std.specs.Prelude.{◌≡◌, Result, IfErr}
use Rattle.rv_asm_tokens.specs.declared.fault.AsmFaultKind.{AsmFaultKind}
use Rattle.rv_asm_tokens.specs.declared.fault.AsmFaultKind.TheVariants as kinds

-- no fault is meant in whose place want of memory could be told
abbrev pub NoFault : {Y : Type 0} → Result Y AsmFaultKind → Type 0
NoFault meant = IfErr meant (λ e. e ≡ kinds.Memory)
