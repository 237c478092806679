use Rattle.rv_asm.proofs.Addressed.{small_address}
use Rattle.rv_asm.proofs.Wholeness.{image_holds, whole_output}
use Rattle.rv_asm_lines.specs.LayoutView.{layout_view}
use Rattle.rv_asm_lines.specs.OutputView.{output_view}
use Rattle.rv_asm.proofs.assembling.assemble.Goals as goal

pub symbols_of-requires : goal.symbols_of-requires
symbols_of-requires c = small_address c.args.source.now (layout_view c.in_ok-layout.layout) c.in_ok-layout.ensures

pub finish-requires : goal.finish-requires
finish-requires c = rw (c.in-Ok.ensures) (whole_output c.args.source.now (layout_view c.in_ok-layout.layout) (output_view c.in_ok-output.output) c.in_ok-layout.ensures c.in_ok-output.ensures.output)

pub returns-clause-decodes : goal.returns-clause-decodes
returns-clause-decodes c = image_holds c.args.source.now c.finish.result (layout_view c.in_ok-layout.layout) (output_view c.in_ok-output.output) _ c.in_ok-layout.ensures c.in_ok-output.ensures.output c.in_ok-output.ensures.sound c.finish.ensures.image
