use Rattle.std.proofs.Common.{refl}
use Rattle.cl_state.specs.Asked.{doing}
use Rattle.cl_state.specs.Told.{returned, told}
use Rattle.test_calls.proofs.state.tells_rank_and_size.Goals as goal

pub returns : goal.returns
unfolding told doing returned
returns c = (refl, refl)
