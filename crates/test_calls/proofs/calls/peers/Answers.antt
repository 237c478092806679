use Rattle.std.proofs.Common.{refl}
use Rattle.test_calls.proofs.calls.peers.Goals as goal

pub returns : goal.returns
returns c = (refl, refl, refl, refl)
