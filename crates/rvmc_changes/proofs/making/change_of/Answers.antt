use Rattle.std.proofs.Common.{◌≡◌, ◌∙◌, Some, length, refl, sym}
use Rattle.std.specs.Prelude.{slice_get}
use Rattle.std.proofs.lemmas.Option.{slice_get_read}
use Rattle.rvmc_changes.proofs.Walked.{change_behind}
use Rattle.rvmc_changes.proofs.making.change_of.Goals as goal

pub returns : goal.returns
returns c =
    let state = c.args.state.now in
    let step = c.args.step.now in
    let rank = c.in-Some.rank.now in
    let owned = c.in-Some.ensures.lookup in
    let at = slice_get_read c.deref.result.now (length c.deref.result.now) c.from.result rank refl owned.3.0 owned.1 in
    let there : slice_get state.ranks.items step.rank ≡ Some rank =
    sym (λ i. slice_get (c.deref.ensures.value i) ((c.from.ensures ∙ c.rank.ensures) i)) ∙ at in
    change_behind state step c.args.before.now rank c.in-Some-hart_of.hart c.in_ok-change_in.field-0 there
    c.in-Some-hart_of.ensures.some c.in_ok-change_in.ensures
