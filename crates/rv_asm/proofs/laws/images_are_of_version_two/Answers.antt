use Rattle.rv_asm.proofs.Wholeness.{image_version}
use Rattle.rv_asm.proofs.laws.images_are_of_version_two.Goals as goal

pub returns : goal.returns
returns c = image_version c.args._source.now
