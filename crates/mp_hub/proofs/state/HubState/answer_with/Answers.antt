use Rattle.mp_hub.proofs.CallsSoFar as calls
use Rattle.mp_hub.proofs.state.HubState.answer_with.Goals as goal

pub returns-clause-reply : goal.returns-clause-reply
returns-clause-reply c =
    calls.replied c.args.self.now c.reply_with.new.self c.args.rank c.args.request.now c.reply_with.result
    c.reply_with.ensures.ok

pub returns-clause-stands : goal.returns-clause-stands
returns-clause-stands c =
    calls.stands c.args.self.now c.reply_with.new.self c.args.rank c.args.request.now c.reply_with.result
    c.reply_with.ensures.ok

pub returns-clause-spared : goal.returns-clause-spared
returns-clause-spared c =
    calls.spared_with c.args.self.now c.args.rank c.args.request.now c.reply_with.result c.reply_with.ensures.free
