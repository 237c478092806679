use Rattle.std.proofs.Common.{subst}
use Rattle.std.proofs.lemmas.Option.{same_Some}
use Rattle.cl_explore.proofs.Lists.{read_of}
use Rattle.rvmc_explore.specs.Starting.{IsEndTold}
use Rattle.rvmc_explore.specs.declared.outcomes.Outcome.{Outcome}
use Rattle.std.proofs.Common.{sym, ◌∙◌}
use Rattle.rvmc_explore.proofs.Listed.{one_told}
use Rattle.rvmc_explore.proofs.starting.ends_told.Goals as goal

pub loop-place-preserved : goal.loop-place-preserved
loop-place-preserved c =
    let told = c.args.told.now in
    let one = c.index-told-place.result in
    let there = read_of told c.loop-place.place one c.loop-place-test.true c.index-told-place.is in
    one_told told c.loop-place.place c.in_ok-end.end c.loop-place.ends.items c.push.new.self.items
    (λ outcome at. subst (λ (o : Outcome). IsEndTold o c.in_ok-end.end) (same_Some one outcome (sym there ∙ at))
    c.in_ok-end.ensures) c.in_ok-push.ensures.items c.loop-place.invariant
