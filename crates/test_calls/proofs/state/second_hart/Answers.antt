use Rattle.std.proofs.Common.{refl}
use Rattle.cl_state.specs.Asked.{asked, doing}
use Rattle.cl_state.specs.Told.{returned, told}
use Rattle.test_calls.proofs.state.second_hart.Goals as goal

pub returns : goal.returns
unfolding asked told doing returned
returns c = (refl, refl, refl, refl)
