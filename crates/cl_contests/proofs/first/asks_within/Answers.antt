use Rattle.std.proofs.Common.{ap, ◌∙◌}
use Rattle.cl_reduction_laws.specs.Complete.{polls_complete_in}
use Rattle.cl_contests.proofs.Leading.{asks_of}
use Rattle.cl_contests.proofs.first.asks_within.Goals as goal

pub returns : goal.returns
returns c = λ yes.
    let own = c.args.own.now in
    asks_of c.args.patterns.now.may_wait c.args.patterns.now.kept.items c.args.rank c.args.own.now c.is_made_anew-waits.result
    c.next-doing.result
    c.in_ok-ask.ask c.is_made_anew-waits.ensures (c.next-doing.ensures).spelled c.in_ok-ask.ensures
    (c.allow.ensures.allowed c.if-not-allow.false) (c.allow.ensures.wild c.if-not-allow.false)
    (λ its. c.allow_poll_of_complete.ensures c.if-not-allow_poll_of_complete.false
    (c.polls_complete-polls.ensures
    ∙ (ap (polls_complete_in own.memory own.requests) (c.next-doing.ensures).spelled ∙ its)))
