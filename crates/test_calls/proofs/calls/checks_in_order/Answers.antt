use Rattle.std.proofs.Common.{refl}
use Rattle.test_calls.proofs.calls.checks_in_order.Goals as goal

pub returns : goal.returns
returns c = refl
