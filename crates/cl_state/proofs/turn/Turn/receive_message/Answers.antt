use Rattle.std.proofs.Common.{[], ◌∷◌, length, take}
use Rattle.cl_state.specs.Writes.{statuses_from}
use Rattle.cl_state.proofs.Enough.{kept_fits}
use Rattle.cl_state.proofs.Pages.{enough_fewer}
use Rattle.cl_state.proofs.turn.Turn.receive_message.Goals as goal

pub receive-requires : goal.receive-requires
receive-requires c =
    enough_fewer c.args.self.now.memory.now.pages c.args.self.now.spares.now c.args.target.buffer c.args.target.capacity
    (length (take c.args.target.capacity c.as_slice.result.now)) (statuses_from c.args.target.status 1 ∷ []) c.requires (kept_fits c.args.target.capacity c.as_slice.result.now)
