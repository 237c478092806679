use Rattle.std.proofs.Common.{◌∙◌, ap}
use Rattle.rv_asm_lines.specs.LayoutView.{labels_view}
use Rattle.rv_asm_lines.proofs.LabelSteps.{insert_view}
use Rattle.rv_asm_lines.proofs.labels.put_label.Goals as goal

pub returns : goal.returns
returns c = ap labels_view c.in_ok-insert.ensures.entries ∙ insert_view c.args.name c.args.place c.args.labels.now.entries c.requires
