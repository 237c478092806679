use Rattle.std.proofs.Common.{◌∙◌}
use Rattle.mp_alike.proofs.Calls.{replies, stands}
use Rattle.mp_alike.proofs.HeldAlways.{held_after}
use Rattle.mp_alike.proofs.whole.WholeHub.answer.Goals as goal

pub invariant_of-self : goal.invariant_of-self
invariant_of-self c =
    held_after c.self.inside.inner c.reply.new.self c.args.rank c.args.request.now c.reply.result c.reply.ensures.ok
    c.reply.ensures.err c.self.invariant

pub returns-clause-reply : goal.returns-clause-reply
returns-clause-reply c links calls is =
    replies c.self.inside.inner c.reply.new.self c.args.rank c.args.request.now c.reply.result c.reply.ensures.ok links
    calls (c.self.view_is ∙ is)

pub returns-clause-stands : goal.returns-clause-stands
returns-clause-stands c links calls is =
    stands c.self.inside.inner c.reply.new.self c.args.rank c.args.request.now c.reply.result c.reply.ensures.ok links
    calls (c.self.view_is ∙ is)
