-- What follows for a result.
use Rattle.std.specs.Prelude.{Result, Ok, Err, IfOk, OnOk}

pub on_ok : {T E P Q : Type 0} (r : Result T E) → (P → Q) → OnOk r P → OnOk r Q
on_ok (Ok x) f p = f p
on_ok (Err e) f p = tt

pub ok_to_on : {T E P Q : Type 0} (r : Result T E) → (P → Q) → IfOk r (λ _. P) → OnOk r Q
ok_to_on (Ok x) f p = f p
ok_to_on (Err e) f p = tt

-- also where something else is told besides
pub ok_with : {T E : Type 0} (r : Result T E) (S : Type 0) (P Q : T → Type 0) → (S → (x : T) → P x → Q x) → OnOk r S
    → IfOk r P → IfOk r Q
ok_with (Ok x) S P Q f s h = f s x h
ok_with (Err e) S P Q f s h = tt
