use Rattle.std.proofs.Common.{sym, ◌∙◌}
use Rattle.mp_hub.proofs.CallsSoFar as calls
use Rattle.mp_hub.proofs.state.HubState.reply_with.Goals as goal

pub returns-in-Recv-true-default-default-default-clause-ok : goal.returns-in-Recv-true-default-default-default-clause-ok
returns-in-Recv-true-default-default-default-clause-ok c =
    calls.received c.args.self.now c.recv_with.new.self c.args.rank c.args.request.now _ _ _ _ _
    c.recv_with.result
    c.in-Recv-true-default-default-default.is
    (sym c.in-Recv-true-default-default-default.now-is ∙ c.in-Recv-true-default-default-default.now-test)
    c.selection_of.ensures c.recv_with.ensures.ok
