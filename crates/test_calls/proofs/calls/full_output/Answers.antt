use Rattle.std.proofs.Common.{refl}
use Rattle.test_calls.proofs.calls.full_output.Goals as goal

pub returns : goal.returns
returns c = refl
