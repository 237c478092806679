use Rattle.std.proofs.Common.{◌∙◌, rules, sym}
use Rattle.rvmc_runs.proofs.Reading.{ok≢err}
use Rattle.rvmc_runs.proofs.Stable.{thread_fault}
use Rattle.rvmc_runs.proofs.runs.run_by.Goals as goal

pub told-requires : goal.told-requires
told-requires g c =
    let run = c.in_ok-left.ensures.run in
    record {
      limits = c.parts.ensures.limits;
      ranks = run.traces_count;
      each = record { traces = run.traces_count ∙ sym run.ranks_count; stops = run.stops_count ∙ sym run.ranks_count };
      merged = c.in_ok-left.ensures.merged;
    }

pub returns-clause-says : goal.returns-clause-says
returns-clause-says g c = record {
  told = λ are. record {
    left = c.in_ok-left.left;
    run = record { apart = c.in_ok-left.ensures.run; arrived = c.in_ok-left.ensures.arrived };
    told = search rules;
    status_is = search rules;
  };
  refused = λ none. absurd (ok≢err _ _ (c.in_ok-left.ensures.plans.1 none));
}

pub returns-in_err-left-clause-fault : goal.returns-in_err-left-clause-fault
returns-in_err-left-clause-fault g c =
    let fault = thread_fault c.args.image.now c.args.plans.now c.in_err-left.field-0.0 c.in_err-left.ensures.plans in
    search rules
