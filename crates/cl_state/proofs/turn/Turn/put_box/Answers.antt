use Rattle.std.proofs.Common.{◌≡◌, ◌∙◌, ◌∷◌, List, ap, sym, subst, length}
use Rattle.part_phase.specs.declared.receiving.RecvPhase.{RecvPhase}
use Rattle.cl_state.proofs.Enough.{enough_box, box_left}
use Rattle.cl_state.proofs.turn.Turn.put_box.Goals as goal

pub write_where_right-requires : goal.write_where_right-requires
write_where_right-requires c =
    enough_box c.args.self.now.memory.now.pages c.args.self.now.spares.now c.args.self.now.phases.now
    c.args.taken.now.side c.args.taken.now.part c.place_at-address.result c.receiving-bytes.result c.args.taken.now.bytes.now
    c.first-bytes.result.now List.[] c.requires c.receiving-bytes.ensures.phase c.place_at-address.ensures c.first-bytes.ensures

pub returns-clause-left : goal.returns-clause-left
returns-clause-left c = λ rs enough.
    box_left c.args.self.now.memory.now c.write_where_right.new.memory c.args.self.now.spares.now
    c.write_where_right.new.spares c.args.self.now.phases.now
    c.args.taken.now.side c.args.taken.now.part c.place_at-address.result c.receiving-bytes.result c.args.taken.now.bytes.now
    c.first-bytes.result.now rs enough c.receiving-bytes.ensures.phase c.place_at-address.ensures c.first-bytes.ensures
    c.write_where_right.ensures.written c.write_where_right.ensures.pages
