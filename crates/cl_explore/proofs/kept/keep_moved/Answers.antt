use Rattle.cl_moves.proofs.Asking.{if_ok_on}
use Rattle.cl_explore.proofs.Staying.{kept_beside}
use Rattle.cl_explore.proofs.kept.keep_moved.Goals as goal

pub returns : goal.returns
returns c =
    let is = c.is_beside.ensures in
    let yes = c.if-not-is_beside.false in
    if_ok_on c.keep_beside.result
    (λ kept beside stayed. kept_beside c.args.earlier.now c.args.standing.now c.args.rank (is.same yes) stayed kept
    (is.there yes) (is.here yes) beside) c.keep_beside.ensures
