use Rattle.cl_rests.proofs.Held.{tells_held}
use Rattle.cl_rests.proofs.buffering.is_held_up.Goals as goal

pub returns : goal.returns
returns c =
    tells_held c.args.among.now c.args.standing.now c.args.rank c.rests_beside.result
    (c.in_ok-is_stuck_beside.ensures.free c.if-branch.false) c.rests_beside.ensures
