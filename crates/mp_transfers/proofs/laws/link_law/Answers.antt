use Rattle.mp_transfers.proofs.Links as links
use Rattle.mp_transfers.proofs.laws.link_law.Goals as goal

pub returns : goal.returns
returns c = links.law
