use Rattle.rv_asm.proofs.Directed.{images_are_directed}
use Rattle.rv_asm.proofs.laws.images_are_directed.Goals as goal

pub returns : goal.returns
returns c = images_are_directed c.args._source.now
