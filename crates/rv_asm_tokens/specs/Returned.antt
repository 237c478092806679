-- What the code returns of a step that may fail.
use Rattle.std.specs.Prelude.{◌≡◌, Result, Ok, Err}
use Rattle.rv_asm_tokens.specs.declared.fault.AsmFaultKind.{AsmFaultKind}
use Rattle.rv_asm_tokens.specs.declared.fault.AsmFaultKind.TheVariants as kinds

-- a fault is the one that is meant, unless memory was refused
abbrev pub Fails : {Y : Type 0} → AsmFaultKind → Result Y AsmFaultKind → Type 0
Fails kinds.Memory meant = Unit {0}
Fails e meant = meant ≡ Err e

-- what the code returned, seen by view, is what is meant, unless memory was refused
abbrev pub Gives : {X Y : Type 0} → (X → Y) → Result X AsmFaultKind → Result Y AsmFaultKind → Type 0
Gives view (Ok x) meant = meant ≡ Ok (view x)
Gives view (Err e) meant = Fails e meant

-- what the code returned, seen by view, is just what is meant: nothing is refused
abbrev pub Is : {X Y : Type 0} → (X → Y) → Result X AsmFaultKind → Result Y AsmFaultKind → Type 0
Is view (Ok x) meant = meant ≡ Ok (view x)
Is view (Err e) meant = meant ≡ Err e
