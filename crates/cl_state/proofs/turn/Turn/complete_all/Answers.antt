use Rattle.std.proofs.Common.{◌∙◌}
use Rattle.std.proofs.lemmas.List.{length-map}
use Rattle.cl_state.specs.Several.{pendings}
use Rattle.cl_state.proofs.Enough.{enough_statuses}
use Rattle.cl_state.proofs.turn.Turn.complete_all.Goals as goal

pub write_where_right-requires : goal.write_where_right-requires
write_where_right-requires c =
    enough_statuses c.args.self.now.site.now (pendings c.args.self.now.requests.now c.args.handles.now) c.args.gots.now
    c.write_all-truncated.new.memory.pages c.write_all-truncated.new.spares c.args.address _ c.as_slice.result.now
    c.write_all-truncated.ensures.left c.if-address-ne0.true (length-map c.args.handles.now _)
    (c.as_slice.ensures.value ∙ c.write_all-truncated.ensures.statuses)
