use Rattle.std.proofs.Common.{refl}
use Rattle.cl_state.specs.Asked.{doing}
use Rattle.cl_state.specs.Several.{bytes_of_status}
use Rattle.cl_state.specs.Told.{completed_all, returned, told}
use Rattle.test_calls.proofs.state.tells_the_places_of_several.Goals as goal

pub returns : goal.returns
unfolding told doing returned completed_all bytes_of_status
returns c = refl
