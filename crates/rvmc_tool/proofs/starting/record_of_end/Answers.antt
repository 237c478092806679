use Rattle.std.proofs.Common.{rules, length, refl, Some, ◌<◌, ◌^◌}
use Rattle.rvmc_tool.proofs.Fitting.{ends_behind_fit}
use Rattle.rvmc_tool.proofs.starting.record_of_end.Goals as goal

-- the steps of a run are inside the limits, and there are no more than memory holds
pub new-requires : goal.new-requires
new-requires g c =
    let recorded = rw c.in-Ok-Some.field-0-is at c.in-Ok-Some.ensures.steps in
    record {
      each = ends_behind_fit c.args.image.now c.args.start.now c.args.reach.states c.args.reach.turns c.args.number
          c.in-Ok-Some.steps.items c.requires.image recorded;
      few = search rules;
    }

pub returns-in_ok-new-in-Ok-Some-clause-says : goal.returns-in_ok-new-in-Ok-Some-clause-says
returns-in_ok-new-in-Ok-Some-clause-says g c =
    let steps = c.in-Ok-Some.steps.items in
    let few : length steps < 2 ^ 64 = search rules in
    let recorded = rw c.in-Ok-Some.field-0-is at c.in-Ok-Some.ensures.steps in
    let each = ends_behind_fit c.args.image.now c.args.start.now c.args.reach.states c.args.reach.turns c.args.number steps
    c.requires.image recorded in (
      record {
        steps = steps;
        recorded = recorded;
        inside = record { image_is = c.requires.image; fit = record { each = each; few = few } };
        spelled = c.in_ok-new-in-Ok-Some.ensures;
      },
      refl,
    )

pub returns-in-Err-clause-fault : goal.returns-in-Err-clause-fault
returns-in-Err-clause-fault g c = c.fault_of.ensures c.args.image.now c.args.reach.states c.args.reach.turns
    (Some c.args.number) c.in-Err.ensures.fault
