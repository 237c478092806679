use Rattle.std.proofs.Common.{refl}
use Rattle.test_calls.proofs.calls.transfer_calls.Goals as goal

pub returns : goal.returns
returns c = refl
