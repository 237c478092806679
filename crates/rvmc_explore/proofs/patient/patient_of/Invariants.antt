use Rattle.std.proofs.Common.{◌≡◌, filter, take}
use Rattle.rvmc_explore.specs.InnerPatient.{is_patient}
use Rattle.rvmc_explore.proofs.patient.patient_of.Given as goal

-- those so far
abbrev pub invariant-loop-lead : goal.invariant-loop-lead
invariant-loop-lead l = l.kept.items ≡ filter (is_patient l.resting) (take l.lead-index l.leads)
