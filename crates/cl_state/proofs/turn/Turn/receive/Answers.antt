use Rattle.std.proofs.Common.{[], ◌∷◌}
use Rattle.cl_state.specs.Writes.{statuses_from}
use Rattle.cl_state.proofs.Enough.{enough_same, left_same}
use Rattle.cl_state.proofs.turn.Turn.receive.Goals as goal

pub write_where_right-requires : goal.write_where_right-requires
write_where_right-requires c =
    enough_same c.args.self.now.memory.now.pages c.args.self.now.spares.now c.args.target.buffer _ c.kept-kept.result.now
    (statuses_from c.args.target.status 1 ∷ []) c.requires c.kept-kept.ensures

pub write_status-requires : goal.write_status-requires
write_status-requires c =
    left_same c.args.self.now.memory.now c.write_where_right.new.memory c.args.self.now.spares.now
    c.write_where_right.new.spares c.args.target.buffer _ c.kept-kept.result.now
    (statuses_from c.args.target.status 1 ∷ []) c.requires c.kept-kept.ensures
    c.write_where_right.ensures.written c.write_where_right.ensures.pages
