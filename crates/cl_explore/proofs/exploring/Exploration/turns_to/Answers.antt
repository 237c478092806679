use Rattle.cl_explore.proofs.Finds.{turns_lead}
use Rattle.cl_explore.proofs.exploring.Exploration.turns_to.Goals as goal

pub returns : goal.returns
returns c =
    turns_lead c.args.self.now.nodes.items c.args.node c.in_ok-steps.steps.items c.turns_in.result (λ turns. turns.items)
    c.in_ok-steps.ensures _ c.as_slice.ensures.value c.turns_in.ensures
