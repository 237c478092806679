use Rattle.mp_alike.proofs.LiveBoards.{live_told}
use Rattle.mp_alike.proofs.live.live_names.Goals as goal

pub returns : goal.returns
returns c =
    live_told c.args.a.now c.args.b.now c.board.result.now c.board-2.result.now c.board.ensures c.board-2.ensures
    ((c.is_alike_beside.ensures).0 c.if-not-is_alike_beside.false) c.board_names.result c.board_names.ensures
