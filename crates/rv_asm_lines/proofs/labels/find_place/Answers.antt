use Rattle.std.proofs.Common.{◌∙◌}
use Rattle.rv_asm_lines.proofs.LabelSteps.{lookup_view}
use Rattle.rv_asm_lines.proofs.labels.find_place.Goals as goal

pub returns : goal.returns
returns c = c.copied.ensures ∙ c.get.ensures.value ∙ lookup_view c.args.name.now c.args.labels.now.entries
