use Rattle.std.proofs.Common.{length, refl}
use Rattle.std.proofs.lemmas.Option.{slice_get_read}
use Rattle.mp_alike.proofs.Ordered.{keeps_there}
use Rattle.mp_alike.proofs.posts.keeps_claim.Goals as goal

pub returns-in-Some : goal.returns-in-Some
returns-in-Some c =
    let found = c.in-Some.ensures.lookup in
    let here = slice_get_read c.args.lines.now (length c.args.lines.now) c.args.place c.in-Some.line.now refl found.3.0 found.1 in
    keeps_there c.args.to.now c.args.lines.now c.args.place c.in-Some.line.now c.keeps_place.result here
    c.keeps_place.ensures
