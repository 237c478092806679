-- An answer isn't a fault.
use Rattle.std.proofs.Common.{◌≡◌, ap, true≢false}
use Rattle.std.specs.Prelude.{Ok, Err, is_ok}

pub ok≢err : {X Y : Type 0} (x : X) (y : Y) → Ok x ≡ Err y → ⊥
ok≢err x y e = true≢false (ap is_ok e)
