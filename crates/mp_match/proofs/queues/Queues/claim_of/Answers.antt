use Rattle.std.proofs.Common.{refl}
use Rattle.mp_match.proofs.Asked.{past_claim}
use Rattle.mp_match.proofs.queues.Queues.claim_of.Goals as goal

pub returns-in-None : goal.returns-in-None
returns-in-None c = past_claim c.args.self.now c.args.post (c.in-None.ensures.none refl)
