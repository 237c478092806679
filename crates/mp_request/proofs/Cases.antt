-- The worked values compute.
use Rattle.std.proofs.Common.{refl}
use Rattle.mp_request.specs.Worked.{CompletionRows}

pub completion : CompletionRows
completion = (refl, refl, refl, refl, refl, refl)
