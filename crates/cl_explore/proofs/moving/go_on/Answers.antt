use Rattle.std.proofs.Common.{subst, sym}
use Rattle.cl_explore.specs.How.{how_of}
use Rattle.cl_explore.specs.Searching.{GoesOn}
use Rattle.cl_explore.proofs.Covers.{goes_plainly, goes_surely}
use Rattle.cl_explore.proofs.moving.go_on.Goals as goal

pub returns-in_ok-how-in-Plainly-clause-on : goal.returns-in_ok-how-in-Plainly-clause-on
returns-in_ok-how-in-Plainly-clause-on c =
    let kept = c.args.course.now.patterns.now.kept.items in
    let may_wait = c.args.course.now.patterns.now.may_wait in
    subst (λ goes. GoesOn (how_of goes may_wait kept) c.args.course.now.order.now c.args.live.now c.go_ahead.new.self)
    (sym c.in-Plainly.is)
    (goes_plainly c.args.course.now.order.now c.args.live.now c.go_ahead.new.self c.in_ok-how-in-Plainly.ensures.ahead)

pub returns-in_ok-go_surely-in-AtOnce-clause-on : goal.returns-in_ok-go_surely-in-AtOnce-clause-on
returns-in_ok-go_surely-in-AtOnce-clause-on c =
    let kept = c.args.course.now.patterns.now.kept.items in
    let may_wait = c.args.course.now.patterns.now.may_wait in
    subst (λ goes. GoesOn (how_of goes may_wait kept) c.args.course.now.order.now c.args.live.now c.go_surely.new.self)
    (sym c.in-AtOnce.is)
    (goes_surely c.args.course.now.order.now c.args.live.now c.go_ahead-in-AtOnce.new.self c.go_surely.new.self
    c.in_ok-how-in-AtOnce.ensures.ahead c.in_ok-go_surely-in-AtOnce.ensures)
