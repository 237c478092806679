use Rattle.std.proofs.Common.{◌++◌, ◌∷◌, [], add-one, ap, sym, ◌∙◌}
use Rattle.cl_state.specs.Rank.{below}
use Rattle.cl_rests.proofs.buffering.first_ranks.Goals as goal

pub loop-rank-preserved : goal.loop-rank-preserved
loop-rank-preserved c =
    c.in_ok-push.ensures.items
    ∙ (ap (λ ranks. ranks ++ c.loop-rank.rank ∷ []) c.loop-rank.invariant
    ∙ ap below (sym (add-one c.loop-rank.rank)))
