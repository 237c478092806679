use Rattle.std.proofs.Common.{refl}
use Rattle.cl_state.specs.Asked.{doing}
use Rattle.cl_state.specs.Told.{received, received_message, returned, told, with_status}
use Rattle.test_calls.proofs.state.status_over_buffer.Goals as goal

pub returns : goal.returns
unfolding told doing returned received received_message with_status
returns c = refl
