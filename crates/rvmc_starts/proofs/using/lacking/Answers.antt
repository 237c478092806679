use Rattle.std.proofs.Common.{rules, ◌≡◌, ◌+◌, ◌∙◌, true}
use Rattle.rvmc_starts.specs.Using.{any_whole}
use Rattle.rvmc_starts.proofs.Steps.{lacking_step, one_less}
use Rattle.rvmc_starts.proofs.using.lacking.Goals as goal

pub loop-done-preserved : goal.loop-done-preserved
loop-done-preserved c =
    let number = c.loop-done.done + 1 in
    let whole : any_whole c.args.parts.now number ≡ true = search rules in
    c.loop-done.invariant
    ∙ lacking_step c.args.parts.now number _ _ (one_less c.args.count c.loop-done.done (search rules)) whole
