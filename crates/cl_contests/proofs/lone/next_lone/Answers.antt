use Rattle.std.proofs.Common.{Some, slice_get, subst, sym, ◌≡◌, ◌∙◌}
use Rattle.std.proofs.lemmas.Option.{slice_get_read}
use Rattle.cl_moves.proofs.Asking.{if_ok_on}
use Rattle.cl_contests.specs.Lone.{IsLoneIfSome}
use Rattle.cl_contests.proofs.Others.{told_lone}
use Rattle.cl_contests.proofs.lone.next_lone.Goals as goal

pub returns-in-Hub : goal.returns-in-Hub
returns-in-Hub c =
    let own = c.index-own.result.now in
    let ranks = c.args.standing.now.cluster.ranks in
    let here = slice_get_read ranks.items c.len.result c.from-place.result own (c.len.ensures ∙ ranks.ok.0)
    c.if-place-len.false c.index-own.ensures in
    if_ok_on c.lone_call.result
    (λ o turn. told_lone c.args.patterns.now.may_wait c.args.standing.now c.in-Some.rank own c.in-Hub.request
    (subst (λ r. slice_get ranks.items r ≡ Some own) c.from-place.ensures here)
    (sym c.in_ok-request.ensures ∙ c.in-Hub.is)
    (subst (IsLoneIfSome c.args.standing.now) c.in-Some.is c.in_ok-rank.ensures) (c.hold_back.ensures c.if-hold_back.false)
    o turn) c.lone_call.ensures
