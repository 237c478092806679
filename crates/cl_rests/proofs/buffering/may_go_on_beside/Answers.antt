use Rattle.std.proofs.Common.{subst}
use Rattle.cl_rests.specs.Held.{TellsRestsBeside}
use Rattle.cl_rests.proofs.Held.{tells_go_on, tells_none_on}
use Rattle.cl_rests.proofs.buffering.may_go_on_beside.Goals as goal

pub returns-then-not-rests_beside : goal.returns-then-not-rests_beside
returns-then-not-rests_beside c =
    tells_none_on c.args.among.now c.args.standing.now c.args.rank
    (subst (TellsRestsBeside c.args.among.now c.args.standing.now c.args.rank) c.if-not-rests_beside.true c.rests_beside.ensures)

pub returns : goal.returns
returns c =
    tells_go_on c.args.among.now c.args.standing.now c.args.rank c.in_ok-ready.ready
    (subst (TellsRestsBeside c.args.among.now c.args.standing.now c.args.rank) c.if-not-rests_beside.false c.rests_beside.ensures)
    c.in_ok-ready.ensures
