use Rattle.rvmc_hints.proofs.Beginnings.{alone, named}
use Rattle.rvmc_hints.proofs.laws.hint_law.Goals as goal

pub returns : goal.returns
returns c = record { named = named; alone = alone }
