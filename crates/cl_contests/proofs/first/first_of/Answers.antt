use Rattle.std.proofs.Common.{Some, slice_get, subst, sym, ◌≡◌, ◌∙◌}
use Rattle.std.proofs.lemmas.Option.{slice_get_read}
use Rattle.cl_moves.proofs.Asking.{if_ok_on}
use Rattle.cl_contests.proofs.Leading.{told_first}
use Rattle.cl_contests.proofs.first.first_of.Goals as goal

pub returns-in-Hub : goal.returns-in-Hub
returns-in-Hub c =
    let own = c.index-own.result.now in
    let ranks = c.args.standing.now.cluster.ranks in
    let here = slice_get_read ranks.items c.len.result c.from-place.result own (c.len.ensures ∙ ranks.ok.0)
    c.if-place-len.false c.index-own.ensures in
    if_ok_on c.first_call.result
    (λ o call. told_first c.args.patterns.now.may_wait c.args.patterns.now.kept.items c.args.standing.now c.args.rank own
    c.in-Hub.request
    (subst (λ r. slice_get ranks.items r ≡ Some own) c.from-place.ensures here)
    (sym c.in_ok-request.ensures ∙ c.in-Hub.is) (c.hold_back.ensures c.if-hold_back.false) o call) c.first_call.ensures
