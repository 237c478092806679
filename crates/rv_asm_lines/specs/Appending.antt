-- Bytes that are put behind others.
use Rattle.std.specs.Prelude.{ℕ, List, ◌++◌, Result, Ok}
use Rattle.rv_asm_tokens.specs.declared.fault.AsmFaultKind.{AsmFaultKind}
use Rattle.rv_asm_tokens.specs.Fault.{◌>>=◌}

-- bytes behind others, if they fit
abbrev pub appended : List ℕ → Result (List ℕ) AsmFaultKind → Result (List ℕ) AsmFaultKind
appended before more = more >>= λ bytes. Ok (before ++ bytes)
