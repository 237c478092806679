use Rattle.std.proofs.Common.{refl}
use Rattle.cl_state.specs.Asked.{asked, doing}
use Rattle.cl_state.specs.Several.{bytes_of_status}
use Rattle.cl_state.specs.Told.{completed_all, returned, told}
use Rattle.test_calls.proofs.state.tests_a_synchronous_send_among_several.Goals as goal

pub returns : goal.returns
unfolding asked told doing returned completed_all bytes_of_status
returns c = (refl, refl, refl)
