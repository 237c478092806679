use Rattle.std.proofs.Common.{[], ◌∷◌, arith}
use Rattle.cl_state.specs.Writes.{box_into, statuses_from}
use Rattle.cl_state.proofs.Pages.{enough_head}
use Rattle.cl_state.proofs.turn.Turn.take_box.Goals as goal

pub put_box-requires : goal.put_box-requires
put_box-requires c =
    enough_head c.args.self.now.memory.now.pages c.args.self.now.spares.now (box_into c.args.self.now.phases.now c.args.taken.now.side c.args.taken.now.part).address
    (box_into c.args.self.now.phases.now c.args.taken.now.side c.args.taken.now.part).count
    (box_into c.args.self.now.phases.now c.args.taken.now.side c.args.taken.now.part).count
    (statuses_from c.args.target.status 1 ∷ []) c.requires (omega arith)

pub arrive-requires : goal.arrive-requires
arrive-requires c = c.put_box.ensures.left (statuses_from c.args.target.status 1 ∷ []) c.requires
