use Rattle.std.proofs.Common.{◌≡◌, ◌∙◌, Bool, List, ℕ, length, subst}
use Rattle.cl_explore.specs.Ends.{findings}
use Rattle.cl_explore.specs.declared.leads.Lead.{Lead}
use Rattle.rvmc_explore.specs.Endless.{AreComplete}
use Rattle.rvmc_explore.specs.Marks.{TellsMarkedAlone}
use Rattle.rvmc_explore.specs.Searched.{AreSound}
use Rattle.rvmc_explore.proofs.Patience.{tells}
use Rattle.rvmc_explore.proofs.patient.hanging.Goals as goal

pub returns : goal.returns
returns c =
    let found = c.args.found.now in
    let ends_are = c.as_slice-ends.ensures.value in
    let leads_are = c.as_slice-leads.ensures.value in
    let moves_are = c.as_slice-moves.ensures.value in
    let kept = c.in_ok-kept.kept.items in
    let all = c.in_ok-all.all.items in
    let patient = c.in_ok-patient.patient.items in
    let ends = c.as_slice-ends.result.now in
    let many : c.len-count.result ≡ length found.nodes.items = c.len-count.ensures ∙ found.nodes.ok.0 in
    tells (findings found) kept all patient c.in_ok-told.told c.requires c.in_ok-kept.ensures
    (record {
      many = c.in_ok-all.ensures.many ∙ many;
      sound = subst (λ (es : List ℕ). AreSound found.leads.items es all) ends_are
          (subst (λ (ls : List Lead). AreSound ls ends all) leads_are c.in_ok-all.ensures.sound);
      complete = subst (λ (es : List ℕ). AreComplete found.leads.items es all) ends_are
          (subst (λ (ls : List Lead). AreComplete ls ends all) leads_are c.in_ok-all.ensures.complete);
    })
    (record {
      many = c.in_ok-patient.ensures.many ∙ many;
      sound = subst (λ (es : List ℕ). AreSound kept es patient) ends_are
          (subst (λ (ls : List Lead). AreSound ls ends patient) moves_are c.in_ok-patient.ensures.sound);
      complete = subst (λ (es : List ℕ). AreComplete kept es patient) ends_are
          (subst (λ (ls : List Lead). AreComplete ls ends patient) moves_are c.in_ok-patient.ensures.complete);
    })
    (subst (λ (ms : List Bool). TellsMarkedAlone all ms c.in_ok-told.told) c.as_slice-patient_marks.ensures.value
    (subst (λ (ms : List Bool). TellsMarkedAlone ms c.as_slice-patient_marks.result.now c.in_ok-told.told)
    c.as_slice-all_marks.ensures.value c.in_ok-told.ensures))
