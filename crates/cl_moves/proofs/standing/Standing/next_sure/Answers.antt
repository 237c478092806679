use Rattle.std.proofs.Common.{Some, arith, refl, slice_get, subst, sym, ◌≡◌, ◌∙◌}
use Rattle.std.proofs.lemmas.Option.{slice_get_read}
use Rattle.cl_moves.proofs.Asking.{if_ok_on}
use Rattle.cl_moves.proofs.Surely.{told_next}
use Rattle.cl_moves.proofs.standing.Standing.next_sure.Goals as goal

pub returns-in-Hub : goal.returns-in-Hub
returns-in-Hub c =
    let own = c.index-own.result.now in
    let ranks = c.args.self.now.cluster.ranks in
    let here = slice_get_read ranks.items c.len.result c.from-place.result own (c.len.ensures ∙ ranks.ok.0)
    c.if-place-len.false c.index-own.ensures in
    let next = c.in-Some.ensures in
    if_ok_on c.sure_call.result
    (λ o call. told_next c.args.order.now c.args.self.now c.args.rank own next.0 _ c.in-Hub.request
    (subst (λ r. slice_get ranks.items r ≡ Some own) c.from-place.ensures here) next.1 refl next.2 refl
    (omega (arith, c.from.ensures, c.len-2.ensures, own.harts.ok.0, c.if-from-len.false))
    (sym c.in_ok-request.ensures ∙ c.in-Hub.is) o call) c.sure_call.ensures
