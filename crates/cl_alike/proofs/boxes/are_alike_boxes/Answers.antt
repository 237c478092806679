use Rattle.std.proofs.Common.{arith}
use Rattle.std.proofs.lemmas.Option.{slice_get_within}
use Rattle.cl_alike.proofs.boxes.are_alike_boxes.Goals as goal

pub returns : goal.returns
returns c = λ its link parts more at there.
    let inside = slice_get_within c.args.boxes.now link parts at in
    c.loop-link.invariant link (omega (arith, inside, c.loop-link-test.false)) parts more at there
