use Rattle.std.proofs.Common.{rules}
use Rattle.std.proofs.lemmas.Result.{IfErr-weaker}
use Rattle.std.specs.Prelude.{◌≡◌, ◌-◌, IfErr, length, take}
use Rattle.rvmc_line.specs.declared.line.RecordCommand.TheVariants as command
use Rattle.rvmc_views.specs.Faults.{IsStepsFault, IsUnread}
use Rattle.rvmc_views.specs.Records.{size_of_all}
use Rattle.rvmc_views.proofs.Pages.{of_page, page_fault, unread_page}
use Rattle.rvmc_views.proofs.paging.put_page.Goals as goal

pub returns-in_err-image-clause-fault : goal.returns-in_err-image-clause-fault
returns-in_err-image-clause-fault g c =
    let bytes = c.args.bytes.now in
    let texts = c.args.texts.now in
    let part = c.split.result.0.now in
    let part_is : part ≡ take (length bytes - size_of_all texts) bytes = search rules in
    let unread : IfErr c.from_residual.result (IsUnread part) = search rules in
    IfErr-weaker c.from_residual.result _ _ (unread_page c.args.from c.args.to texts bytes part part_is) unread

pub returns-clause-fault : goal.returns-clause-fault
returns-clause-fault g c =
    let bytes = c.args.bytes.now in
    let texts = c.args.texts.now in
    let part = c.split.result.0.now in
    let part_is : part ≡ take (length bytes - size_of_all texts) bytes = search rules in
    let image = c.in_ok-image.image in
    let steps = c.in_ok-image.steps.items in
    let refused : IfErr c.map_err.result (IsStepsFault (command.Page c.args.from c.args.to texts) image steps) =
    search (rules, page_fault) in
    IfErr-weaker c.map_err.result _ _
    (λ fault is. of_page c.args.from c.args.to texts bytes part part_is fault image steps c.in_ok-image.ensures.read is) refused
