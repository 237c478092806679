use Rattle.std.proofs.Common.{length, refl}
use Rattle.std.proofs.lemmas.Option.{slice_get_read}
use Rattle.mp_alike.proofs.Ordered.{paired_there, unpaired_there}
use Rattle.mp_alike.proofs.posts.unpaired_at.Goals as goal

pub returns-in-Some-clause-some : goal.returns-in-Some-clause-some
returns-in-Some-clause-some c =
    let found = c.in-Some.ensures.lookup in
    let here = slice_get_read c.args.lines.now (length c.args.lines.now) c.args.place c.in-Some.line.now refl found.3.0 found.1 in
    unpaired_there c.args.lines.now c.args.place c.in-Some.line.now here c.unpaired.result c.unpaired.ensures.some

pub returns-in-Some-clause-none : goal.returns-in-Some-clause-none
returns-in-Some-clause-none c =
    let found = c.in-Some.ensures.lookup in
    let here = slice_get_read c.args.lines.now (length c.args.lines.now) c.args.place c.in-Some.line.now refl found.3.0 found.1 in
    paired_there c.args.lines.now c.args.place c.in-Some.line.now here c.unpaired.result c.unpaired.ensures.none
