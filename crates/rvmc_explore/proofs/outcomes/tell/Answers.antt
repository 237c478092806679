use Rattle.std.proofs.Common.{List, ℕ, arith, subst, sym, ◌∙◌}
use Rattle.std.proofs.lemmas.Option.{slice_get_read}
use Rattle.cl_explore.specs.Ends.{findings}
use Rattle.cl_explore.specs.declared.leads.Lead.{Lead}
use Rattle.rvmc_explore.specs.Endless.{AreComplete}
use Rattle.rvmc_explore.specs.InnerOutcomes.{AreToldBeside}
use Rattle.rvmc_explore.specs.Searched.{AreSound}
use Rattle.rvmc_explore.proofs.Listed.{all_told, ends_alone, one_company}
use Rattle.rvmc_explore.proofs.Unmarked.{AreWhole}
use Rattle.rvmc_explore.proofs.outcomes.tell.Goals as goal

pub loop-place-init : goal.loop-place-init
loop-place-init c =
    ends_alone c.args.order.now c.args.image.now (findings c.args.found.now) c.args.heard.items c.in_ok-told.told.items
    c.in_ok-told.ensures.told c.in_ok-told.ensures.begins c.in_ok-told.ensures.needs

pub loop-place-preserved : goal.loop-place-preserved
loop-place-preserved c =
    let image = c.args.image.now in
    let found = c.args.found.now in
    let companies = found.companies in
    let company = c.index-company.result.now in
    let marks = c.as_slice.result.now in
    let old = c.loop-place.told.items in
    let new = c.tell_company.new.told.items in
    let at = slice_get_read companies.items c.len-place-end.result c.loop-place.place company
    (c.len-place-end.ensures ∙ companies.ok.0) c.loop-place-test.true c.index-company.ensures in
    let ends = c.as_slice-ends.result.now in
    let sound = subst (λ (es : List ℕ). AreSound found.leads.items es c.in_ok-marks.marks.items) c.as_slice-ends.ensures.value
    (subst (λ (ls : List Lead). AreSound ls ends c.in_ok-marks.marks.items) c.as_slice-leads.ensures.value
    c.in_ok-marks.ensures.sound) in
    let complete = subst (λ (es : List ℕ). AreComplete found.leads.items es c.in_ok-marks.marks.items) c.as_slice-ends.ensures.value
    (subst (λ (ls : List Lead). AreComplete ls ends c.in_ok-marks.marks.items) c.as_slice-leads.ensures.value
    c.in_ok-marks.ensures.complete) in
    let many = c.in_ok-marks.ensures.many ∙ (c.len.ensures ∙ found.nodes.ok.0) in
    one_company c.args.order.now image (findings found) c.requires.explored c.parts-parts.ensures.limits c.args.heard.items
    c.loop-place.place marks company old new at
    (subst (AreSound found.leads.items found.ends.items) (sym c.as_slice.ensures.value) sound)
    (subst (AreWhole (findings found)) (sym c.as_slice.ensures.value) (many, complete))
    (subst (λ kept. AreToldBeside image kept marks company old new) c.as_slice-nodes.ensures.value
    c.in_ok-tell_company.ensures) c.loop-place.invariant

pub returns-clause-told : goal.returns-clause-told
returns-clause-told c =
    let companies = c.args.found.now.companies in
    all_told c.args.order.now c.args.image.now (findings c.args.found.now) c.args.heard.items c.loop-place.place
    c.loop-place.told.items (omega (arith, c.loop-place-test.false, c.len-place-end.ensures, companies.ok.0))
    c.loop-place.invariant

pub returns-clause-begins : goal.returns-clause-begins
returns-clause-begins c = (c.loop-place.invariant).begins

pub returns-clause-needs : goal.returns-clause-needs
returns-clause-needs c = (c.loop-place.invariant).needs
