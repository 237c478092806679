use Rattle.std.proofs.Common.{refl}
use Rattle.mp_match.proofs.Asked.{past_free}
use Rattle.mp_match.proofs.queues.Queues.free_post.Goals as goal

pub returns-in-None : goal.returns-in-None
returns-in-None c = past_free c.args.self.now c.args.post (c.in-None.ensures.none refl)
