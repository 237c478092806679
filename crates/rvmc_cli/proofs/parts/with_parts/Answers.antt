use Rattle.std.proofs.Common.{◌∙◌, List, ap, map, subst, take}
use Rattle.std.proofs.lemmas.List.{map-append, take_all, take_more}
use Rattle.rvmc_cli.specs.Built.{rule_of_part}
use Rattle.rvmc_cli.specs.Built.{AddsRules}
use Rattle.rvmc_cli.specs.declared.parts.Part.{Part}
use Rattle.rvmc_cli.proofs.Building.{adds_next}
use Rattle.rvmc_cli.proofs.parts.with_parts.Goals as goal

pub loop-part-preserved : goal.loop-part-preserved
loop-part-preserved c =
    let parts = c.args.parts.now in
    let k = c.loop-part.part-index in
    let more = take_more parts k _ c.loop-part-test.true in
    adds_next (map rule_of_part (take k parts)) _ _ _ c.loop-part.command _ c.loop-part.invariant c.in_ok-command.ensures
    (ap (map rule_of_part) more ∙ map-append rule_of_part (take k parts) _)

pub returns : goal.returns
returns c =
    let all = take_all c.loop-part.part-index c.args.parts.now c.loop-part-test.false in
    subst (λ (parts : List Part). AddsRules (map rule_of_part parts) c.args.command c.loop-part.command) all
    c.loop-part.invariant
