use Rattle.std.proofs.Common.{subst}
use Rattle.cl_moves.specs.Sure.{IsSureNext}
use Rattle.cl_moves.proofs.Surely.{sure_ahead, sure_more, sure_taken}
use Rattle.cl_moves.proofs.standing.Standing.take_sure.Goals as goal

pub returns-then-not-branch : goal.returns-then-not-branch
returns-then-not-branch c =
    let order = c.args.order.now in
    let turn = subst (λ o. IsSureNext order c.args.self.now c.args.rank o) c.in-Some.is c.in_ok-turn.ensures in
    sure_taken order c.args.self.now c.take.new.self c.args.rank c.in-Some.turn turn c.in_ok-take.field-0
    c.in_ok-take.ensures.takes

pub returns : goal.returns
returns c =
    let order = c.args.order.now in
    let turn = subst (λ o. IsSureNext order c.args.self.now c.args.rank o) c.in-Some.is c.in_ok-turn.ensures in
    sure_more order c.args.self.now c.take.new.self c.go_ahead.new.self
    (sure_taken order c.args.self.now c.take.new.self c.args.rank c.in-Some.turn turn c.in_ok-take.field-0
    c.in_ok-take.ensures.takes)
    (sure_ahead order c.take.new.self c.go_ahead.new.self c.in_ok-go_ahead.ensures.ahead)
