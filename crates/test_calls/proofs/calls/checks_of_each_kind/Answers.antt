use Rattle.std.proofs.Common.{refl}
use Rattle.test_calls.proofs.calls.checks_of_each_kind.Goals as goal

pub returns : goal.returns
returns c = refl
