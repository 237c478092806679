-- What a run on one thread left, put in order of its stamps, is a run too.
use Rattle.std.specs.Prelude.{ℕ, ◌≡◌, ◌<◌, ◌≤◌, List, map, slice_get}
use Rattle.std.proofs.Common.{sym, ap, ◌∙◌, arith, inl, inr}
use Rattle.std.proofs.lemmas.Bool.{cases_lt}
use Rattle.std.proofs.lemmas.Option.{slice_get_past}
use Rattle.rv_image_types.specs.declared.images.ImageParts.{ImageParts}
use Rattle.rv_image_types.specs.Image.{IsImage}
use Rattle.cl_machine.specs.Cluster.{loaded_cluster}
use Rattle.cl_machine.specs.Order.{of_rank}
use Rattle.cl_machine.specs.ProductSteps.{step_of}
use Rattle.cl_machine.specs.declared.steps.Step.{Step}
use Rattle.cl_arrival_laws.proofs.Below.{joined}
use Rattle.cl_arrival_laws.proofs.Below.{absent, no_deeds, reorder}
use Rattle.cl_record.specs.Records.{IsMergedRun, steps_by, steps_in}
use Rattle.cl_record.specs.declared.plans.Plan.{Plan}
use Rattle.cl_record.specs.declared.records.Record.{Record}
use Rattle.cl_record.proofs.Elements.{at_below}
use Rattle.cl_run.specs.Runs.{IsOneRun}

module _ (image : ImageParts) (plans : List Plan) (order : List ℕ) (left : Record) (is : IsImage image)
    (run : IsOneRun image plans order left) where
  -- the steps of a rank are those of its trace
  there : (r : ℕ) → r < image.ranks → of_rank (λ (e : Step). e.rank) r run.steps ≡ steps_in left r
  there r low =
      let plan = at_below plans r (omega (arith, low, run.plans_count)) in
      let trace = at_below left.traces.items r (omega (arith, low, run.traces_count)) in
      let state = at_below left.ranks.items r (omega (arith, low, run.ranks_count)) in
      let stop = at_below left.stops.items r (omega (arith, low, run.stops_count)) in
      let one = run.each r plan.0 trace.0 state.0 stop.0 plan.1 trace.1 state.1 stop.1 in
      one.steps_are ∙ ap (steps_by r) (sym trace.1)

  -- and a rank that isn't there takes none
  elsewhere : (r : ℕ) → image.ranks ≤ r → of_rank (λ (e : Step). e.rank) r run.steps ≡ steps_in left r
  elsewhere r up =
      let j = joined image run.steps run.final is run.run in
      sym (j.3 r)
      ∙ ap (map step_of) (no_deeds (j.0 r) (slice_get (loaded_cluster image).ranks r) (slice_get run.final.ranks r)
      (absent image r up) (j.2.ranks r))
      ∙ ap (steps_by r) (sym (slice_get_past left.traces.items r (omega (arith, up, run.traces_count))))

  same : (r : ℕ) → of_rank (λ (e : Step). e.rank) r run.steps ≡ steps_in left r
  same r = elim (cases_lt r image.ranks) [ inl low ↦ there r low | inr up ↦ elsewhere r up ]

  pub one_merged : IsMergedRun image left
  one_merged =
      let m = reorder image run.steps run.final is run.run in
      record {
        steps = m.0;
        sorted = record { in_order = m.1.in_order; all = λ r. m.1.all r ∙ same r };
        final = run.final;
        run = m.2;
        end = run.end;
      }
