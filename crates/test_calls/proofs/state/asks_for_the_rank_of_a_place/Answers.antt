use Rattle.std.proofs.Common.{refl}
use Rattle.cl_state.specs.Asked.{asked, doing}
use Rattle.test_calls.proofs.state.asks_for_the_rank_of_a_place.Goals as goal

pub returns : goal.returns
unfolding asked doing
returns c = (refl, refl, refl, refl)
