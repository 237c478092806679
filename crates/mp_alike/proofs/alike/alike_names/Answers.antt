use Rattle.mp_alike.proofs.Hubs.{hubs_told, hubs_unlike}
use Rattle.mp_alike.proofs.alike.alike_names.Goals as goal

pub returns-clause-some : goal.returns-clause-some
returns-clause-some c =
    hubs_told c.args.a.now c.args.b.now c.board.result.now c.board-2.result.now c.board.ensures c.board-2.ensures
    ((c.is_alike_beside.ensures).0 c.if-not-is_alike_beside.false) c.board_names.result c.board_names.ensures.some

pub returns-clause-none : goal.returns-clause-none
returns-clause-none c e =
    hubs_unlike c.args.a.now c.args.b.now c.board.result.now c.board-2.result.now c.board.ensures c.board-2.ensures
    (c.board_names.ensures.none e)
