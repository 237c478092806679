use Rattle.std.proofs.Common.{subst}
use Rattle.cl_moves.proofs.Asking.{if_ok_on}
use Rattle.cl_contests.specs.Turns.{IsVainNext}
use Rattle.cl_contests.proofs.Leading.{vain_polled, vain_stays}
use Rattle.cl_contests.proofs.polls.poll_once.Goals as goal

pub returns-in_default : goal.returns-in_default
returns-in_default c = vain_stays c.args.standing.now

pub returns : goal.returns
returns c =
    let turn = subst (λ o. IsVainNext c.args.standing.now o) c.in-Some.is c.in_ok-turn.ensures in
    if_ok_on c.take.result (λ b takes. vain_polled c.args.standing.now c.take.new.self c.in-Some.turn turn b takes)
    c.take.ensures.takes
