use Rattle.std.proofs.Common.{◌∙◌, inl, inr, rules, sym}
use Rattle.rvmc_runs.proofs.Reading.{ok≢err}
use Rattle.rvmc_runs.proofs.stuck.one_until_stuck_by.Goals as goal

pub told_with_word-requires : goal.told_with_word-requires
told_with_word-requires c =
    let run = c.in_ok-left.ensures.run.run in
    record {
      limits = c.requires;
      ranks = run.traces_count;
      each = record { traces = run.traces_count ∙ sym run.ranks_count; stops = run.stops_count ∙ sym run.ranks_count };
      merged = c.in_ok-left.ensures.merged;
    }

pub told-requires : goal.told-requires
told-requires c =
    let run = c.in_ok-left.ensures.run.run in
    record {
      limits = c.requires;
      ranks = run.traces_count;
      each = record { traces = run.traces_count ∙ sym run.ranks_count; stops = run.stops_count ∙ sym run.ranks_count };
      merged = c.in_ok-left.ensures.merged;
    }

pub returns-in_ok-told_with_word-clause-says : goal.returns-in_ok-told_with_word-clause-says
returns-in_ok-told_with_word-clause-says c =
    let ran = c.in_ok-left.ensures in
    record {
      told = λ are. inr (record {
        left = c.in_ok-left.field-0.left;
        run = (ran.run, ran.arrived, ran.stuck c.if-stuck.true);
        told = search rules;
        status_is = search rules;
      });
      refused = λ none. absurd (ok≢err _ _ (ran.plans.1 none));
    }

pub returns-in_ok-told-clause-says : goal.returns-in_ok-told-clause-says
returns-in_ok-told-clause-says c =
    let ran = c.in_ok-left.ensures in
    record {
      told = λ are. inl (record {
        left = c.in_ok-left.field-0.left;
        run = (
          record { turns = ran.whole c.if-stuck.false; arrived = ran.arrived },
          ran.free c.if-stuck.false,
        );
        told = search rules;
        status_is = search rules;
      });
      refused = λ none. absurd (ok≢err _ _ (ran.plans.1 none));
    }
