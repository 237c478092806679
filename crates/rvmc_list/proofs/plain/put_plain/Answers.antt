use Rattle.std.proofs.Common.{◌≡◌, ◌∙◌, length, refl, sym}
use Rattle.std.specs.Prelude.{Some, slice_get}
use Rattle.std.proofs.lemmas.Option.{slice_get_read}
use Rattle.rvmc_list.proofs.Plains.{plain_put}
use Rattle.rvmc_list.proofs.plain.put_plain.Goals as goal

pub returns-clause-puts : goal.returns-clause-puts
returns-clause-puts c =
    let own = c.in-Some.own.now in
    let owned = c.in-Some.ensures.lookup in
    let at = slice_get_read c.deref.result.now (length c.deref.result.now) c.from.result own refl owned.3.0 owned.1 in
    let there : slice_get c.args.state.now.ranks.items c.args.step.now.rank ≡ Some own =
    sym (λ i. slice_get (c.deref.ensures.value i) ((c.from.ensures ∙ c.rank.ensures) i)) ∙ at in
    plain_put c.args.symbols.now c.args.state.now c.step_at-2.new.self c.args.place c.args.step.now own
    c.in_ok-ahead.ahead c.in-Some-hart_after.after.now c.has_overflowed_after.result c.args.text.now.items
    c.put_front.new.text.items c.put_rest.new.text.items c.requires.plain there c.in_ok-ahead.ensures.text
    c.in_ok-ahead.ensures.ahead c.in-Some-hart_after.ensures c.has_overflowed_after.ensures c.in_ok-put_rest.ensures
