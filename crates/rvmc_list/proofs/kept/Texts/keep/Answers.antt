use Rattle.rvmc_list.proofs.KeptOnes.{kept_with}
use Rattle.rvmc_list.proofs.kept.Texts.keep.Goals as goal

pub returns-then-place-len : goal.returns-then-place-len
returns-then-place-len c = λ symbols are is. kept_with symbols c.args.self.now.kept.items c.place_of-place.result c.args.kept are is
