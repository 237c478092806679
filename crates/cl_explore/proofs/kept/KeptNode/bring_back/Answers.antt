use Rattle.std.proofs.Common.{arith, refl, ◌∙◌}
use Rattle.std.proofs.lemmas.Option.{slice_get_read}
use Rattle.cl_explore.proofs.Staying.{brought_back}
use Rattle.cl_explore.proofs.kept.KeptNode.bring_back.Goals as goal

pub returns : goal.returns
returns c = λ stayed.
    let had = c.args.self.now.had in
    let ranks = c.args.standing.now.cluster.ranks in
    let there = slice_get_read had.items c.len-else-rank-len-2.result c.args.rank c.index-had.result.now
    (c.len-else-rank-len-2.ensures ∙ had.ok.0) c.if-rank-len-3.false c.index-had.ensures in
    brought_back c.args.self.now c.args.standing.now _ _ c.args.rank c.index-had.result.now there
    c.in_ok-restore.ensures.restored refl stayed (omega (arith, c.if-rank-len.false, c.len.ensures, ranks.ok.0))
