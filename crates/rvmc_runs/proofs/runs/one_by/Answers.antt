use Rattle.std.proofs.Common.{◌∙◌, rules, sym}
use Rattle.rvmc_runs.proofs.Reading.{ok≢err}
use Rattle.rvmc_runs.proofs.runs.one_by.Goals as goal

pub told-requires : goal.told-requires
told-requires c =
    let run = c.in_ok-left.ensures.run in
    record {
      limits = c.requires;
      ranks = run.traces_count;
      each = record { traces = run.traces_count ∙ sym run.ranks_count; stops = run.stops_count ∙ sym run.ranks_count };
      merged = c.in_ok-left.ensures.merged;
    }

pub returns-clause-says : goal.returns-clause-says
returns-clause-says c = record {
  told = λ are. record {
    left = c.in_ok-left.left;
    run = record { turns = c.in_ok-left.ensures.run; arrived = c.in_ok-left.ensures.arrived };
    told = search rules;
    status_is = search rules;
  };
  refused = λ none. absurd (ok≢err _ _ (c.in_ok-left.ensures.plans.1 none));
}
