use Rattle.mp_hub.proofs.BoardKept as law
use Rattle.mp_hub.proofs.laws.board_law.Goals as goal

pub returns : goal.returns
returns c = law.board_law
