use Rattle.std.proofs.Common.{length, refl}
use Rattle.std.proofs.lemmas.Option.{slice_get_read}
use Rattle.mp_alike.proofs.Ordered.{body_there}
use Rattle.mp_alike.proofs.posts.has_body_at.Goals as goal

pub returns-in-Some : goal.returns-in-Some
returns-in-Some c =
    let found = c.in-Some.ensures.lookup in
    let here = slice_get_read c.args.bodies.now (length c.args.bodies.now) c.args.place c.in-Some.other.now refl found.3.0 found.1 in
    body_there c.args.bodies.now c.args.place c.in-Some.other.now c.args.body.now c.is_same_body.result here
    c.is_same_body.ensures
