use Rattle.std.proofs.Common.{sym, ◌∙◌}
use Rattle.cl_state.specs.Room.{rank_of}
use Rattle.cl_rests.proofs.Found.{none_ahead}
use Rattle.cl_rests.proofs.handles.handles_ahead.Goals as goal

pub returns-then-len-eq0 : goal.returns-then-len-eq0
returns-then-len-eq0 c =
    let own = c.args.own.now in
    c.new.ensures ∙ sym (none_ahead (rank_of own) (sym (c.len.ensures ∙ own.harts.ok.0) ∙ c.if-len-eq0.true))
