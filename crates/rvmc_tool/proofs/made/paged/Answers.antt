use Rattle.std.proofs.Common.{refl, rules}
use Rattle.rvmc_line.specs.declared.line.RecordCommand.TheVariants.{Page}
use Rattle.rvmc_tool.proofs.Told.{obeyed_in_pieces}
use Rattle.rvmc_tool.proofs.made.paged.Goals as goal

pub returns-in-Ok-clause-answers : goal.returns-in-Ok-clause-answers
returns-in-Ok-clause-answers g c = λ bytes known not_6.
    let command = Page c.args.from c.args.to c.args.texts.now in
    obeyed_in_pieces command refl _ bytes c.in-Ok.bytes.items c.as_slice-whole.result.now c.tell_made.result _ _ known
    c.in-Ok.ensures.whole (search rules)
    (c.tell_made.ensures.told command _ c.put_page-paged.ensures.paged c.put_page-paged.ensures.fault c.put_page-paged.ensures.left not_6)
