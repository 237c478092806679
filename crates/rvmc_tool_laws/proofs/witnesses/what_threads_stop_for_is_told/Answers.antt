use Rattle.std.proofs.Common.{◌∙◌, refl, subst, sym, Some}
use Rattle.rv_image_types.specs.declared.images.ImageParts.{ImageParts}
use Rattle.rvmc_answers.specs.Plans.{ArePlansOf}
use Rattle.rvmc_report.specs.Report.{rank_ends, report, status_of}
use Rattle.cl_threads.specs.Runs.{IsThreadRun}
use Rattle.rvmc_tool_laws.proofs.witnesses.what_threads_stop_for_is_told.Goals as goal

pub returns-in-Ok-report : goal.returns-in-Ok-report
returns-in-Ok-report g c =
    let image = c.args.image.now in
    let harts = c.args.harts.now in
    let plans = c.in_ok-plans.plans.items in
    let left = c.in-Ok.left in
    let of = subst (λ (parts : ImageParts). ArePlansOf parts.ranks harts c.args.budget plans) c.parts.ensures.parts
    c.in_ok-plans.ensures in
    let run = subst (λ made. IsThreadRun image made left) c.deref.ensures.value c.in-Ok.ensures.run in
    let law = c.stops_fit.ensures image c.args.budget (Some harts) plans (report (rank_ends left))
    (status_of (rank_ends left)) of
    (record { left = left; run = record { apart = run; arrived = c.in-Ok.ensures.arrived }; told = refl; status_is = refl })
    in
    (law.0, c.in-Ok-report.ensures ∙ law.1, law.2, law.3)
