use Rattle.rvmc_draw.proofs.Messages.{messages_law}
use Rattle.rvmc_draw.proofs.laws.messages_law.Goals as goal

pub returns : goal.returns
returns c = messages_law
