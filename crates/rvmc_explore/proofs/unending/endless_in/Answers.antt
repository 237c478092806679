use Rattle.std.proofs.Common.{ℕ, ◌≡◌, ◌∙◌, arith, length, List, Bool, replicate, subst, true}
use Rattle.cl_explore.specs.Ends.{findings}
use Rattle.cl_explore.specs.declared.leads.Lead.{Lead}
use Rattle.rvmc_explore.specs.Endless.{AreComplete}
use Rattle.rvmc_explore.specs.Marks.{TellsMarkedAlone}
use Rattle.rvmc_explore.specs.Searched.{AreSound}
use Rattle.rvmc_explore.proofs.Endless.{none_goes, tells_endless}
use Rattle.rvmc_explore.proofs.Marked.{all_many, all_set}
use Rattle.rvmc_explore.proofs.unending.endless_in.Goals as goal

pub returns-clause-says : goal.returns-clause-says
returns-clause-says c =
    let found = c.args.found.now in
    let marks = c.in_ok-marks.marks.items in
    let all = c.in_ok-all.all.items in
    let count = c.len-count.result in
    let many : count ≡ length found.nodes.items = c.len-count.ensures ∙ found.nodes.ok.0 in
    let ends = c.as_slice-ends.result.now in
    let every : all ≡ replicate count true = c.in_ok-all.ensures in
    tells_endless (findings found) marks all c.in_ok-node.node (omega (arith, c.if-found-gt0.false))
    (c.in_ok-marks.ensures.many ∙ many) (all_many all count every ∙ many)
    (λ i low. all_set all count every i low)
    (subst (λ (es : List ℕ). AreSound found.leads.items es marks) c.as_slice-ends.ensures.value
    (subst (λ (ls : List Lead). AreSound ls ends marks) c.as_slice-leads.ensures.value c.in_ok-marks.ensures.sound))
    (subst (λ (es : List ℕ). AreComplete found.leads.items es marks) c.as_slice-ends.ensures.value
    (subst (λ (ls : List Lead). AreComplete ls ends marks) c.as_slice-leads.ensures.value c.in_ok-marks.ensures.complete))
    (subst (λ (ms : List Bool). TellsMarkedAlone all ms c.in_ok-node.node) c.as_slice-marked.ensures.value
    (subst (λ (ms : List Bool). TellsMarkedAlone ms c.as_slice-marked.result.now c.in_ok-node.node)
    c.as_slice-every.ensures.value c.in_ok-node.ensures))

pub returns-clause-each : goal.returns-clause-each
returns-clause-each c =
    let found = c.args.found.now in
    let marks = c.in_ok-marks.marks.items in
    let all = c.in_ok-all.all.items in
    let count = c.len-count.result in
    let many : count ≡ length found.nodes.items = c.len-count.ensures ∙ found.nodes.ok.0 in
    let ends = c.as_slice-ends.result.now in
    let every : all ≡ replicate count true = c.in_ok-all.ensures in
    none_goes (findings found) marks all c.in_ok-node.node (all_many all count every ∙ many)
    (λ i low. all_set all count every i low)
    (subst (λ (es : List ℕ). AreSound found.leads.items es marks) c.as_slice-ends.ensures.value
    (subst (λ (ls : List Lead). AreSound ls ends marks) c.as_slice-leads.ensures.value c.in_ok-marks.ensures.sound))
    (subst (λ (ms : List Bool). TellsMarkedAlone all ms c.in_ok-node.node) c.as_slice-marked.ensures.value
    (subst (λ (ms : List Bool). TellsMarkedAlone ms c.as_slice-marked.result.now c.in_ok-node.node)
    c.as_slice-every.ensures.value c.in_ok-node.ensures))
