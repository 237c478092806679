use Rattle.std.proofs.Common.{rules}
use Rattle.std.proofs.lemmas.Fmt.{hex_byte}
use Rattle.rvmc_sights.proofs.gave.put_byte.Goals as goal

pub returns : goal.returns
returns c = search (rules, hex_byte)
