use Rattle.std.proofs.Common.{ap, ◌∙◌}
use Rattle.cl_state.specs.Room.{rank_of}
use Rattle.cl_reduction_laws.specs.Complete.{polls_complete_in}
use Rattle.cl_contests.proofs.Fits.{fit_rank}
use Rattle.cl_contests.proofs.fit.is_fit_rank.Goals as goal

pub returns : goal.returns
returns c = λ its image here stands.
    let own = c.args.own.now in
    fit_rank c.args.patterns.now.may_wait c.args.patterns.now.kept.items here.cluster c.args.rank (rank_of c.args.own.now)
    c.next-doing.result c.in_ok-ask.ask
    c.is_made_anew-waits.result c.next-doing.ensures.spelled c.is_made_anew-waits.ensures c.in_ok-ask.ensures
    (c.allow.ensures.allowed c.if-not-allow.false) (c.allow.ensures.wild c.if-not-allow.false)
    (λ polls. c.allow_poll_of_complete.ensures c.if-not-allow_poll_of_complete.false
    (c.polls_complete.ensures ∙ (ap (polls_complete_in own.memory own.requests) c.next-doing.ensures.spelled ∙ polls)))
    (c.stands_at_call.ensures c.if-not-stands_at_call.false) (c.rests_if.ensures its image here stands)
