-- One more rank is copied.
use Rattle.std.proofs.Common.{◌++◌, ◌∷◌, [], sym, ap, ◌∙◌, map, take}
use Rattle.std.proofs.lemmas.List.{map_more, map_push}
use Rattle.cl_state.specs.Room.{rank_of}
use Rattle.cl_state.specs.declared.state.RankState.{RankState}
use Rattle.cl_replay.proofs.states.copy_ranks.Goals as goal

pub loop-rank-preserved : goal.loop-rank-preserved
loop-rank-preserved c =
    let l = c.loop-rank in
    let ranks = c.args.ranks.now in
    let before = map rank_of (take l.rank-index ranks) in
    rw (c.in_ok-push.ensures.items, map_push, l.invariant, c.in_ok-try_copy.ensures.copy)
    (ap (λ (rank : RankState). before ++ rank_of rank ∷ []) c.rank-item.is
    ∙ sym (map_more rank_of ranks l.rank-index c.rank-item.result c.loop-rank-test.true))
