use Rattle.rv_asm.proofs.Wholeness.{image_symbols}
use Rattle.rv_asm.proofs.laws.symbols_are_those_of_globl.Goals as goal

pub returns : goal.returns
returns c = image_symbols c.args._source.now
