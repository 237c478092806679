use Rattle.std.proofs.Common.{refl}
use Rattle.cl_state.specs.Asked.{asked, doing}
use Rattle.test_calls.proofs.state.break_is_no_call.Goals as goal

pub returns : goal.returns
unfolding asked doing
returns c = refl
