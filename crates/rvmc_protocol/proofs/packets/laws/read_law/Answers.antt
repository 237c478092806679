use Rattle.std.proofs.Common.{List, subst}
use Rattle.rvmc_protocol.proofs.Grammar.{all_told_is_held, held_is_told}
use Rattle.rvmc_protocol.specs.declared.packets.reader.Message.{Message}
use Rattle.rvmc_protocol.specs.Packets.Frames.{Holds}
use Rattle.rvmc_protocol.proofs.packets.laws.read_law.Goals as goal

pub returns : goal.returns
returns c most bytes messages = (
  (λ told. subst (λ (ms : List Message). Holds most bytes ms) told (all_told_is_held most bytes)),
  (λ held. held_is_told most held),
)
