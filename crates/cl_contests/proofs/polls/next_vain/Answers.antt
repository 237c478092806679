use Rattle.std.proofs.Common.{Some, ap, slice_get, subst, sym, ◌≡◌, ◌∙◌}
use Rattle.std.proofs.lemmas.Option.{slice_get_read}
use Rattle.cl_state_laws.specs.Vain.{waits_on}
use Rattle.cl_moves.proofs.Asking.{if_ok_on}
use Rattle.cl_contests.proofs.Leading.{told_vain}
use Rattle.cl_contests.proofs.polls.next_vain.Goals as goal

pub returns-in-Hub : goal.returns-in-Hub
returns-in-Hub c =
    let own = c.index-own.result.now in
    let ranks = c.args.standing.now.cluster.ranks in
    let here = slice_get_read ranks.items c.len.result c.from-place.result own (c.len.ensures ∙ ranks.ok.0)
    c.if-place-len.false c.index-own.ensures in
    if_ok_on c.vain_call.result
    (λ o call. told_vain c.args.standing.now c.args.rank own
    (subst (λ r. slice_get ranks.items r ≡ Some own) c.from-place.ensures here)
    (ap waits_on (sym (c.next-doing.ensures).spelled) ∙ sym c.is_made_anew.ensures ∙ c.if-not-is_made_anew.false) o call)
    c.vain_call.ensures

pub returns-in_default-2 : goal.returns-in_default-2
returns-in_default-2 c =
    let own = c.index-own.result.now in
    let ranks = c.args.standing.now.cluster.ranks in
    let here = slice_get_read ranks.items c.len.result c.from-place.result own (c.len.ensures ∙ ranks.ok.0)
    c.if-place-len.false c.index-own.ensures in
    if_ok_on c.vain_look.result
    (λ o call. told_vain c.args.standing.now c.args.rank own
    (subst (λ r. slice_get ranks.items r ≡ Some own) c.from-place.ensures here)
    (ap waits_on (sym (c.next-doing.ensures).spelled) ∙ sym c.is_made_anew.ensures ∙ c.if-not-is_made_anew.false) o call)
    c.vain_look.ensures
