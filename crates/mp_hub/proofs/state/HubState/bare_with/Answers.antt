use Rattle.mp_hub.specs.Hub.{outcome}
use Rattle.mp_hub.proofs.Counted.{needs_no_twin, stands_in_place}
use Rattle.mp_hub.proofs.state.HubState.bare_with.Goals as goal

pub returns-clause-twin : goal.returns-clause-twin
returns-clause-twin c =
    needs_no_twin (outcome c.args.self.now c.args.rank c.args.request.now) c.reply.new.self c.reply.result c.args.twin.now
    c.requires.none (stands_in_place c.args.self.now c.args.rank c.args.request.now c.requires.bare) c.reply.ensures.ok
