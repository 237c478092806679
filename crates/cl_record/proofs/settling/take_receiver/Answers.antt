use Rattle.std.proofs.Common.{◌+◌, refl}
use Rattle.std.proofs.lemmas.Option.{slice_get_read, slice_get_within}
use Rattle.cl_record.specs.declared.wiring.Ends.{Ends}
use Rattle.cl_record.proofs.Sides.{kept_recvs}
use Rattle.cl_record.proofs.settling.take_receiver.Goals as goal

pub returns-clause-kept : goal.returns-clause-kept
returns-clause-kept c = λ were kept.
    let now = c.args.ends.now.items in
    let own = c.index_mut.result.now in
    let below = slice_get_within now c.args.rank c.requires.0 c.requires.2 in
    let at = slice_get_read now _ c.args.rank own refl below c.index_mut.ensures.value in
    let left : Ends = record { sends = own.sends; recvs = c.take_side.new.sides } in
    kept_recvs were now (c.args.link + 1) c.args.link c.args.rank own left at c.take_side.ensures.others refl kept
