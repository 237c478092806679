use Rattle.mp_alike.proofs.Ordered.{some_lines}
use Rattle.mp_alike.proofs.posts.are_lines_to.Goals as goal

pub returns-in-Some-Some : goal.returns-in-Some-Some
returns-in-Some-Some c =
    some_lines c.args.to.now c.args.mine c.args.theirs c.in-Some-Some.line c.in-Some-Some.other
    c.is_line_to.result c.in-Some-Some.is-0 c.in-Some-Some.is-1 c.is_line_to.ensures
