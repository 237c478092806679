use Rattle.rvmc_draw.proofs.Boards.{board_kept}
use Rattle.rvmc_draw.proofs.laws.board_law.Goals as goal

pub returns : goal.returns
returns c = board_kept
