use Rattle.std.proofs.Common.{length, refl}
use Rattle.std.proofs.lemmas.Option.{slice_get_read}
use Rattle.mp_alike.specs.Names.{renamed}
use Rattle.mp_alike.proofs.Ordered.{same_there}
use Rattle.mp_alike.proofs.posts.has_body.Goals as goal

pub returns-in-Some : goal.returns-in-Some
returns-in-Some c =
    let found = c.in-Some.ensures.lookup in
    let here = slice_get_read c.args.mine.now (length c.args.mine.now) c.args.place c.in-Some.body.now refl found.3.0 found.1 in
    same_there c.args.mine.now c.args.theirs.now c.args.place (renamed c.args.to.now c.args.place) _ c.in-Some.body.now
    c.has_body_at.result c.renamed-there.ensures here c.has_body_at.ensures
