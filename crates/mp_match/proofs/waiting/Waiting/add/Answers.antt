use Rattle.std.proofs.Common.{refl}
use Rattle.std.proofs.lemmas.Result.{on_ok_weaker}
use Rattle.mp_match.specs.Waiting.{receive_key}
use Rattle.mp_match.specs.Queues.{message_key}
use Rattle.mp_match.proofs.Queueing.{entered}
use Rattle.mp_match.proofs.waiting.Waiting.add.Goals as goal

pub returns-in-Send-clause-messages : goal.returns-in-Send-clause-messages
returns-in-Send-clause-messages c =
    on_ok_weaker c.push.result
    (entered message_key _ _ c.requires.messages c.in-Send.is c.requires.place c.in-None.is c.requires.partner)
    (rw c.key_of.ensures at c.push.ensures.ok)

pub returns-in-Send-clause-receives : goal.returns-in-Send-clause-receives
returns-in-Send-clause-receives c =
    on_ok_weaker c.push.result
    (λ _. entered receive_key _ _ c.requires.receives c.in-Send.is c.requires.place c.in-None.is c.requires.partner
    (λ _. refl))
    c.push.ensures.ok

pub returns-in-Receive-clause-messages : goal.returns-in-Receive-clause-messages
returns-in-Receive-clause-messages c =
    on_ok_weaker c.push-in-Receive.result
    (λ _. entered message_key _ _ c.requires.messages c.in-Receive.is c.requires.place c.in-None.is c.requires.partner
    (λ _. refl))
    c.push-in-Receive.ensures.ok

pub returns-in-Receive-clause-receives : goal.returns-in-Receive-clause-receives
returns-in-Receive-clause-receives c =
    on_ok_weaker c.push-in-Receive.result
    (entered receive_key _ _ c.requires.receives c.in-Receive.is c.requires.place c.in-None.is c.requires.partner)
    c.push-in-Receive.ensures.ok

pub returns-in-Claim-clause-messages : goal.returns-in-Claim-clause-messages
returns-in-Claim-clause-messages c =
    entered message_key _ _ c.requires.messages c.in-Claim.is c.requires.place c.in-None.is c.requires.partner
    (λ _. refl)

pub returns-in-Claim-clause-receives : goal.returns-in-Claim-clause-receives
returns-in-Claim-clause-receives c =
    entered receive_key _ _ c.requires.receives c.in-Claim.is c.requires.place c.in-None.is c.requires.partner
    (λ _. refl)
