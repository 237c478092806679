use Rattle.std.proofs.Common.{◌<◌, ◌≤◌, ◌^◌, arith, length, rules}
use Rattle.std.proofs.lemmas.Result.{IfOk-weaker}
use Rattle.cl_text_laws.proofs.Runs.{records_fit}
use Rattle.rvmc_runs.proofs.runs.record_of.Goals as goal

-- the steps of a run are inside the limits, and there are no more than memory holds
pub new-requires : goal.new-requires
new-requires c =
    let steps = c.in_ok-steps.steps.items in
    let is = c.requires in
    let ranks : length c.args.left.traces.items ≤ 256 = omega (arith, is.ranks, is.limits.few_ranks) in
    record {
      each = records_fit c.args.image.now c.args.left steps is.limits is.merged (c.in_ok-steps.ensures ranks);
      few = search rules;
    }

pub returns : goal.returns
returns c =
    let steps = c.in_ok-steps.steps.items in
    let is = c.requires in
    let ranks : length c.args.left.traces.items ≤ 256 = omega (arith, is.ranks, is.limits.few_ranks) in
    let few : length steps < 2 ^ 64 = search rules in
    let each = records_fit c.args.image.now c.args.left steps is.limits is.merged (c.in_ok-steps.ensures ranks) in
    IfOk-weaker c.new.result _ _ (λ text spelled. record {
      steps = steps;
      sorted = c.in_ok-steps.ensures ranks;
      inside = record { image_is = is.limits; fit = record { each = each; few = few } };
      spelled = spelled;
    }) c.new.ensures
