use Rattle.mp_request.proofs.Maps.{is_map}
use Rattle.mp_request.proofs.laws.map_law.Goals as goal

pub returns : goal.returns
returns c = is_map
