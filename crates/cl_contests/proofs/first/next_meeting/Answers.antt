use Rattle.std.proofs.Common.{Some, slice_get, subst, ◌≡◌, ◌∙◌}
use Rattle.std.proofs.lemmas.Option.{slice_get_read}
use Rattle.cl_moves.proofs.Asking.{if_ok_on}
use Rattle.cl_contests.proofs.Leading.{told_met}
use Rattle.cl_contests.proofs.first.next_meeting.Goals as goal

pub returns : goal.returns
returns c =
    let own = c.index-own.result.now in
    let ranks = c.args.standing.now.cluster.ranks in
    let here = slice_get_read ranks.items c.len.result c.from-place.result own (c.len.ensures ∙ ranks.ok.0)
    c.if-place-len.false c.index-own.ensures in
    if_ok_on c.meeting_of.result
    (λ o call. told_met c.args.patterns.now.may_wait c.args.patterns.now.kept.items c.args.standing.now c.args.rank own
    c.is_made_anew-waits.result
    c.next-doing.result c.in_ok-ask.ask
    (subst (λ r. slice_get ranks.items r ≡ Some own) c.from-place.ensures here)
    c.is_made_anew-waits.ensures (c.next-doing.ensures).spelled c.in_ok-ask.ensures (c.hold_back.ensures c.if-hold_back.false)
    o call) c.meeting_of.ensures
