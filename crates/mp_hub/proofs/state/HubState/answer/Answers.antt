use Rattle.mp_hub.proofs.CallsSoFar as calls
use Rattle.mp_hub.proofs.Refused as refused
use Rattle.mp_hub.proofs.state.HubState.answer.Goals as goal

pub returns-clause-reply : goal.returns-clause-reply
returns-clause-reply c =
    calls.replied c.args.self.now c.reply.new.self c.args.rank c.args.request.now c.reply.result c.reply.ensures.ok

pub returns-clause-stands : goal.returns-clause-stands
returns-clause-stands c =
    calls.stands c.args.self.now c.reply.new.self c.args.rank c.args.request.now c.reply.result c.reply.ensures.ok

pub returns-clause-spared : goal.returns-clause-spared
returns-clause-spared c =
    refused.spared c.args.self.now c.args.rank c.args.request.now c.reply.result c.reply.ensures.free

pub returns-clause-full : goal.returns-clause-full
returns-clause-full c =
    refused.full c.args.self.now c.reply.new.self c.args.rank c.args.request.now c.reply.result c.reply.ensures.ok
    c.reply.ensures.free
