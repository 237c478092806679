use Rattle.std.proofs.Common.{rules, length, refl, ◌<◌, ◌^◌}
use Rattle.rvmc_tool.proofs.Fitting.{ends_fit}
use Rattle.rvmc_tool.proofs.exploring.record_of_end.Goals as goal

-- the steps of a run are inside the limits, and there are no more than memory holds
pub new-requires : goal.new-requires
new-requires g c =
    let recorded = rw c.in-Ok-Some.field-0-is at c.in-Ok-Some.ensures.steps in
    record {
      each = ends_fit c.args.image.now c.args.asked.now.order.now c.args.asked.now.buffered c.args.asked.now.states
          c.args.asked.now.turns c.args.number c.in-Ok-Some.steps.items c.requires.image recorded;
      few = search rules;
    }

pub returns-in_ok-new-in-Ok-Some-clause-says : goal.returns-in_ok-new-in-Ok-Some-clause-says
returns-in_ok-new-in-Ok-Some-clause-says g c =
    let steps = c.in-Ok-Some.steps.items in
    let few : length steps < 2 ^ 64 = search rules in
    let recorded = rw c.in-Ok-Some.field-0-is at c.in-Ok-Some.ensures.steps in
    let each = ends_fit c.args.image.now c.args.asked.now.order.now c.args.asked.now.buffered c.args.asked.now.states
    c.args.asked.now.turns c.args.number steps c.requires.image recorded in (
      record {
        steps = steps;
        recorded = recorded;
        inside = record { image_is = c.requires.image; fit = record { each = each; few = few } };
        spelled = c.in_ok-new-in-Ok-Some.ensures;
      },
      refl,
    )
