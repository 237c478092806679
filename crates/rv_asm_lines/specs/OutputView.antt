-- The output that the code keeps.
use Rattle.rv_asm_lines.specs.declared.output.Output.{Output as Kept}
use Rattle.rv_asm_lines.specs.Output.{Output}

abbrev pub output_view : Kept → Output
output_view o =
    record { text = o.text.items; init = o.init.items; entry = o.entry; comms = o.comms.items; links = o.links.items }
