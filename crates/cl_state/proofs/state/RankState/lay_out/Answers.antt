use Rattle.cl_state.proofs.Enough.{room_made}
use Rattle.cl_state.proofs.state.RankState.lay_out.Goals as goal

pub returns-clause-room : goal.returns-clause-room
returns-clause-room c =
    room_made c.room_behind.new.self c.row_and_missing-row.new.self c.args.hart c.row_and_missing-row.result.1
    c.row_and_missing-row.new.self.spares c.make_up_to.new.self c.row_and_missing-row.ensures.same
    c.in_ok-room_behind.ensures.room c.row_and_missing-row.ensures.missing c.in_ok-make_up_to.ensures.made
