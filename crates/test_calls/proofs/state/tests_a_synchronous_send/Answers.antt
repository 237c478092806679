use Rattle.std.proofs.Common.{refl}
use Rattle.cl_state.specs.Asked.{asked, doing}
use Rattle.cl_state.specs.Told.{received, returned, told, with_status}
use Rattle.test_calls.proofs.state.tests_a_synchronous_send.Goals as goal

pub returns : goal.returns
unfolding asked told doing returned received with_status
returns c = (refl, refl, refl, refl)
