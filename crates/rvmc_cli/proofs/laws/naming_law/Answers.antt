use Rattle.rvmc_cli.proofs.Naming.{plain_words_stay}
use Rattle.rvmc_cli.proofs.laws.naming_law.Goals as goal

pub returns : goal.returns
returns c = plain_words_stay
