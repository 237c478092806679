use Rattle.std.proofs.Common.{◌∙◌, List, inl, inr, rules, sym}
use Rattle.rv_image_types.specs.Image.{IsImage}
use Rattle.rv_image_types.specs.declared.images.ImageParts.{ImageParts}
use Rattle.cl_record.specs.Records.{IsMergedRun}
use Rattle.cl_record.specs.declared.plans.Plan.{Plan}
use Rattle.cl_record.specs.declared.records.Record.{Record}
use Rattle.cl_threads.specs.Cuts.{IsEndedThreadRun}
use Rattle.rvmc_runs.specs.Making.{IsLeft}
use Rattle.rvmc_runs.proofs.Reading.{ok≢err}
use Rattle.rvmc_runs.proofs.Stable.{thread_fault}
use Rattle.rvmc_runs.proofs.stuck.run_until_stuck_by.Goals as goal

-- what such a run leaves is a record of all ranks
is_left : (image : ImageParts) (plans : List Plan) (left : Record) → IsImage image → IsEndedThreadRun image plans left
    → IsMergedRun image left → IsLeft image left
is_left image plans left limits ended merged =
    let run = ended.run in
    record {
      limits = limits;
      ranks = run.traces_count;
      each = record { traces = run.traces_count ∙ sym run.ranks_count; stops = run.stops_count ∙ sym run.ranks_count };
      merged = merged;
    }

pub told-requires : goal.told-requires
told-requires g c = is_left _ _ _ c.parts.ensures.limits c.in_ok-left.ensures.run c.in_ok-left.ensures.merged

pub told_with_word-requires : goal.told_with_word-requires
told_with_word-requires g c = is_left _ _ _ c.parts.ensures.limits c.in_ok-left.ensures.run c.in_ok-left.ensures.merged

pub told_with_word-requires-in-Told : goal.told_with_word-requires-in-Told
told_with_word-requires-in-Told g c = is_left _ _ _ c.parts.ensures.limits c.in_ok-left.ensures.run c.in_ok-left.ensures.merged

pub returns-in-Planned-clause-says : goal.returns-in-Planned-clause-says
returns-in-Planned-clause-says g c =
    let ran = c.in_ok-left.ensures in
    record {
      told = λ are. inl (record {
        left = c.in_ok-left.field-0.left;
        run = (
          record { apart = ran.whole c.in-Planned.is; arrived = ran.arrived },
          ran.free c.in-Planned.is,
        );
        told = search rules;
        status_is = search rules;
      });
      refused = λ none. absurd (ok≢err _ _ (ran.plans.1 none));
    }

pub returns-in-Stuck-clause-says : goal.returns-in-Stuck-clause-says
returns-in-Stuck-clause-says g c =
    let ran = c.in_ok-left.ensures in
    record {
      told = λ are. inr (inl (record {
        left = c.in_ok-left.field-0.left;
        run = (record { apart = ran.run; arrived = ran.arrived }, ran.stuck c.in-Stuck.is);
        told = search rules;
        status_is = search rules;
      }));
      refused = λ none. absurd (ok≢err _ _ (ran.plans.1 none));
    }

pub returns-clause-says : goal.returns-clause-says
returns-clause-says g c =
    let ran = c.in_ok-left.ensures in
    record {
      told = λ are. inr (inr (record {
        left = c.in_ok-left.field-0.left;
        run = (
          record { apart = ran.run; arrived = ran.arrived },
          ran.told c.in-Told.is,
          ran.goes_on c.in-Told.is,
        );
        told = search rules;
        status_is = search rules;
      }));
      refused = λ none. absurd (ok≢err _ _ (ran.plans.1 none));
    }

pub returns-in_err-left-clause-fault : goal.returns-in_err-left-clause-fault
returns-in_err-left-clause-fault g c =
    let fault = thread_fault c.args.image.now c.args.plans.now c.in_err-left.field-0.0 c.in_err-left.ensures.plans in
    search rules
