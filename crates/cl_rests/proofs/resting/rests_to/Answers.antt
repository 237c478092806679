use Rattle.std.proofs.Common.{option_map, sym, ◌∙◌}
use Rattle.cl_rests.specs.Sought.{is_to}
use Rattle.cl_rests.proofs.Found.{own_read, rests_is}
use Rattle.cl_rests.proofs.resting.rests_to.Goals as goal

pub returns : goal.returns
returns c = λ image here stands.
    let standing = c.args.standing.now in
    let ranks = standing.cluster.ranks in
    let own = c.index.result.now in
    let at = own_read ranks.items c.len.result c.from-place.result c.args.rank own (c.len.ensures ∙ ranks.ok.0)
    c.if-place-len.false c.index.ensures c.from-place.ensures in
    c.rests_in.ensures
    ∙ sym (rests_is image standing here stands c.args.rank (is_to (option_map (λ ranks. ranks.now) c.args.to)) own at)
