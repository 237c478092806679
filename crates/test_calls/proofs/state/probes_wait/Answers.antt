use Rattle.std.proofs.Common.{refl}
use Rattle.cl_state.specs.Asked.{asked, doing}
use Rattle.cl_state.specs.Told.{told}
use Rattle.test_calls.proofs.state.probes_wait.Goals as goal

pub returns : goal.returns
unfolding asked told doing
returns c = (refl, refl, refl, refl)
