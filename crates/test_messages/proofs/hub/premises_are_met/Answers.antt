use Rattle.test_messages.proofs.Premises as met
use Rattle.test_messages.proofs.hub.premises_are_met.Goals as goal

pub returns : goal.returns
returns c = met.hub_premises
