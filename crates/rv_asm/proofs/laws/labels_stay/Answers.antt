use Rattle.rv_asm.proofs.Staying.{labels_stay}
use Rattle.rv_asm.proofs.laws.labels_stay.Goals as goal

pub returns : goal.returns
returns c = labels_stay
