use Rattle.std.proofs.Common.{refl}
use Rattle.rvmc_explore.proofs.Marked.{marked_on}
use Rattle.rvmc_explore.proofs.marks.leading_to.Goals as goal

pub returns-then-not-mark_all-clause-sound : goal.returns-then-not-mark_all-clause-sound
returns-then-not-mark_all-clause-sound c =
    let marks = c.rest.marks in
    let leads = c.args.leads.now in
    (marked_on leads leads c.args.targets.now c.args.count marks.items c.as_mut_slice.result.now c.mark_all.new.marks marks.len refl
    c.as_mut_slice.ensures.value marks.ok.0 c.mark_all.auto.marks (c.mark_all.ensures.sound c.args.targets.now)
    c.mark_all.ensures.stay c.rest.invariant).1

pub rest-preserved : goal.rest-preserved
rest-preserved c =
    let marks = c.rest.marks in
    let leads = c.args.leads.now in
    marked_on leads leads c.args.targets.now c.args.count marks.items c.as_mut_slice.result.now c.mark_all.new.marks marks.len refl
    c.as_mut_slice.ensures.value marks.ok.0 c.mark_all.auto.marks (c.mark_all.ensures.sound c.args.targets.now)
    c.mark_all.ensures.stay c.rest.invariant
