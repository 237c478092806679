use Rattle.std.proofs.Common.{◌∙◌, Bor, List, [], ◌∷◌, ap, get_or, map, subst, take}
use Rattle.std.proofs.lemmas.List.{map-append, take_all, take_more}
use Rattle.clap.specs.Words.{App, Text}
use Rattle.rvmc_cli.specs.App.{top_app, with_commands}
use Rattle.rvmc_cli.specs.Built.{StandsFor, app_below}
use Rattle.rvmc_cli.specs.declared.table.Name.{Name}
use Rattle.rvmc_cli.proofs.Building.{with_next}
use Rattle.rvmc_cli.proofs.table.with_all.Goals as goal

abbrev app_of_name : Name → App
app_of_name name = app_below name.short.now

pub loop-name-preserved : goal.loop-name-preserved
loop-name-preserved c =
    let names = c.args.names.now in
    let k = c.loop-name.name-index in
    let nothing : Bor Text = record { ref_ptr = (0, 0); now = [] } in
    let none : Name = record { short = nothing; whole = nothing } in
    let more = take_more names k none c.loop-name-test.true in
    with_next top_app (map app_of_name (take k names)) _ (app_of_name (get_or names k none)) c.loop-name.command
    c.in_ok-command-2.command c.below.result c.loop-name.invariant c.below.ensures c.in_ok-command-2.ensures
    (ap (map app_of_name) more ∙ map-append app_of_name (take k names) (get_or names k none ∷ []))

pub loop-name-init : goal.loop-name-init
loop-name-init c = c.in_ok-command.ensures

pub returns : goal.returns
returns c =
    let names = c.args.names.now in
    let all = take_all c.loop-name.name-index names c.loop-name-test.false in
    subst (λ (some : List Name). StandsFor (with_commands top_app (map app_of_name some)) c.loop-name.command) all c.loop-name.invariant
