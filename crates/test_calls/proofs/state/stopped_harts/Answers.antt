use Rattle.std.proofs.Common.{refl}
use Rattle.cl_state.specs.Asked.{asked, doing}
use Rattle.cl_state.specs.Told.{told}
use Rattle.test_calls.proofs.state.stopped_harts.Goals as goal

pub returns : goal.returns
unfolding asked told doing
returns c = (λ code. (refl, refl), λ cause pc. (refl, refl))
