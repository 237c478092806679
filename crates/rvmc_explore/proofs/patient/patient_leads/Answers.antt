use Rattle.std.proofs.Common.{◌≡◌, filter, subst, List, ℕ}
use Rattle.cl_explore.specs.Ends.{findings}
use Rattle.cl_explore.specs.declared.leads.Lead.{Lead}
use Rattle.rvmc_explore.specs.InnerPatient.{is_patient}
use Rattle.rvmc_explore.proofs.Patience.{are_patient}
use Rattle.rvmc_explore.proofs.patient.patient_leads.Goals as goal

pub returns : goal.returns
returns c =
    let found = c.args.found.now in
    let kept = c.in_ok-kept.kept.items in
    let among = c.as_slice-resting.result.now in
    are_patient (findings found) kept
    (subst (λ (ls : List Lead). kept ≡ filter (is_patient found.resting.items) ls) c.as_slice-leads.ensures.value
    (subst (λ (sets : List ℕ). kept ≡ filter (is_patient sets) c.as_slice-leads.result.now) c.as_slice-resting.ensures.value
    c.in_ok-kept.ensures))
