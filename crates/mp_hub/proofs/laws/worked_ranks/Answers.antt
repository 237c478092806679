use Rattle.std.proofs.Common.{refl}
use Rattle.mp_hub.proofs.laws.worked_ranks.Goals as goal

pub returns : goal.returns
returns c = record { comms = refl; ranks = refl; order = refl; all = refl; theirs = refl }
