use Rattle.rvmc_protocol.proofs.Kept as law
use Rattle.rvmc_protocol.proofs.packets.laws.kept_law.Goals as goal

pub returns : goal.returns
returns c place byte fits = law.kept place.most place.stage place.text byte fits
