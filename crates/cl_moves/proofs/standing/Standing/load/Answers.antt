use Rattle.std.proofs.Common.{ap, replicate, ◌∙◌}
use Rattle.cl_moves.proofs.Ways.{starts}
use Rattle.cl_moves.proofs.standing.Standing.load.Goals as goal

pub returns : goal.returns
returns c =
    starts c.args.image.now _ c.parts-parts.ensures.limits c.in_ok-cluster.ensures c.in_ok-new.ensures
    (c.in_ok-had.ensures ∙ ap (λ n. replicate n 0) (c.len.ensures ∙ c.in_ok-cluster.cluster.ranks.ok.0)) c.new-2.ensures.items
