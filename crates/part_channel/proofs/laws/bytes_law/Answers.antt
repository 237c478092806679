-- Each byte is below 256, by its type.
use Rattle.std.proofs.Common.{arith}
use Rattle.part_channel.proofs.Words.{bytes_back}
use Rattle.part_channel.proofs.laws.bytes_law.Goals as goal

pub returns : goal.returns
returns c =
    bytes_back c.args.bytes.now (λ i. let fits = c.type_inv.bytes i in omega arith) c.requires.whole c.args.width
    c.requires.fits c.requires.wide
