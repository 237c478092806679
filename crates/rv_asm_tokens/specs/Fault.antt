-- Steps that may fail.
use Rattle.std.specs.Prelude.{Result, Ok, Err, Option, Some, None}
use Rattle.rv_asm_tokens.specs.declared.fault.AsmFaultKind.{AsmFaultKind}

-- one step behind another: a fault ends both
infixl 10 ◌>>=◌
abbrev pub ◌>>=◌ : {A B : Type 0} → Result A AsmFaultKind → (A → Result B AsmFaultKind) → Result B AsmFaultKind
(Ok x) >>= f = f x
(Err e) >>= f = Err e

-- cases on what may be there
abbrev pub if_some : {A B : Type 0} → Option A → B → (A → B) → B
if_some None none some = none
if_some (Some x) none some = some x

-- a value that has to be there
abbrev pub wanted : {A : Type 0} → Option A → AsmFaultKind → Result A AsmFaultKind
wanted None e = Err e
wanted (Some x) e = Ok x
