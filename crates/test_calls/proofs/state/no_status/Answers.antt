use Rattle.std.proofs.Common.{refl}
use Rattle.cl_state.specs.Told.{with_status}
use Rattle.test_calls.proofs.state.no_status.Goals as goal

pub returns : goal.returns
unfolding with_status
returns c = (λ memory source tag count. refl, λ memory gs. refl)
