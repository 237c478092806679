use Rattle.std.proofs.Common.{refl}
use Rattle.cl_state.specs.Asked.{doing}
use Rattle.cl_state.specs.Told.{found, received, received_message, returned, told, with_status}
use Rattle.test_calls.proofs.state.tells_the_place_of_a_rank.Goals as goal

pub returns : goal.returns
unfolding told doing returned received received_message found with_status
returns c = (refl, refl, refl)
