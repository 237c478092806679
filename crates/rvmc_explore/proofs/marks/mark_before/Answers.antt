use Rattle.std.proofs.Common.{arith, get_or}
use Rattle.cl_explore.specs.declared.leads.Lead.{Lead}
use Rattle.std.proofs.lemmas.Option.{slice_get-get_or}
use Rattle.rvmc_explore.proofs.Marked.{marked_before, one_fewer, stays_marked}
use Rattle.rvmc_explore.proofs.marks.mark_before.Goals as goal

pub returns-clause-sound : goal.returns-clause-sound
returns-clause-sound c = λ targets sound.
    let leads = c.args.leads.now in
    let none : Lead = record { rank = 0; from = 0; to = 0 } in
    marked_before leads targets c.args.marks.now c.args.place (get_or leads c.args.place none)
    (slice_get-get_or leads c.args.place none c.requires) (c.is_marked.ensures.yes c.if-not-is_marked.false) sound

pub returns-clause-stay : goal.returns-clause-stay
returns-clause-stay c =
    stays_marked c.args.marks.now (get_or c.args.leads.now c.args.place (record { rank = 0; from = 0; to = 0 })).from

pub returns-clause-more : goal.returns-clause-more
returns-clause-more c = λ is.
    let from = (get_or c.args.leads.now c.args.place (record { rank = 0; from = 0; to = 0 })).from in
    one_fewer c.args.marks.now from (omega (arith, c.if-lead-marks.false))
    (c.is_marked-else-not-is_marked.ensures.no c.if-is_marked.false)
