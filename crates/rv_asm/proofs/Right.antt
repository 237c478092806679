-- Steps that came out right.
use Rattle.std.proofs.Common.{◌≡◌, ℕ, Result, Ok, Err, Bool, true, false, refl}
use Rattle.std.specs.Prelude.{if◌then◌else◌}
use Rattle.rv_asm_tokens.specs.declared.fault.AsmFault.{AsmFault}
use Rattle.rv_asm_tokens.specs.declared.fault.AsmFaultKind.{AsmFaultKind}
use Rattle.rv_asm_tokens.specs.Fault.{◌>>=◌}
use Rattle.rv_asm_lines.specs.Layout.{at_line}

pub record Both {A B : Type 0} (r : Result A AsmFaultKind) (f : A → Result B AsmFaultKind) (y : B) : Type 0 where
  pub value : A
  pub first : r ≡ Ok value
  pub second : f value ≡ Ok y

pub bind_ok : {A B : Type 0} (r : Result A AsmFaultKind) (f : A → Result B AsmFaultKind) (y : B) → (r >>= f) ≡ Ok y → Both r f y
bind_ok (Ok x) f y h = record { value = x; first = refl; second = h }
bind_ok (Err e) f y h = absurd cc

pub record BothAt {A B : Type 0} (r : Result A AsmFaultKind) (f : A → Result B AsmFault) (y : B) : Type 0 where
  pub value : A
  pub first : r ≡ Ok value
  pub second : f value ≡ Ok y

pub at_line_ok : {A B : Type 0} (n : ℕ) (r : Result A AsmFaultKind) (f : A → Result B AsmFault) (y : B) → at_line n r f ≡ Ok y → BothAt r f y
at_line_ok n (Ok x) f y h = record { value = x; first = refl; second = h }
at_line_ok n (Err e) f y h = absurd cc

abbrev pub ok : {A : Type 0} → A → Result A AsmFaultKind
ok x = Ok x

pub ok_is : {A : Type 0} (x y : A) → let l : Result A AsmFaultKind = Ok x in let r : Result A AsmFaultKind = Ok y in l ≡ r → x ≡ y
ok_is x y h = cc

pub line_ok : {A : Type 0} (x y : A) → let l : Result A AsmFault = Ok x in let r : Result A AsmFault = Ok y in l ≡ r → x ≡ y
line_ok x y h = cc

-- a test that had to fail, or to hold
pub if_ok : {A : Type 0} (b : Bool) (e : AsmFaultKind) (r : Result A AsmFaultKind) (y : A) → (if b then Err e else r) ≡ Ok y → r ≡ Ok y
if_ok true e r y h = absurd cc
if_ok false e r y h = h

-- a test that had to fail
pub else_ok : {A : Type 0} (b : Bool) (e : AsmFaultKind) (r : Result A AsmFaultKind) (y : A) → (if b then Err e else r) ≡ Ok y → (b ≡ false) × (r ≡ Ok y)
else_ok true e r y h = absurd cc
else_ok false e r y h = (refl, h)

pub then_ok : {A : Type 0} (b : Bool) (e : AsmFaultKind) (r : Result A AsmFaultKind) (y : A) → (if b then r else Err e) ≡ Ok y → (b ≡ true) × (r ≡ Ok y)
then_ok true e r y h = (refl, h)
then_ok false e r y h = absurd cc
