use Rattle.std.proofs.Common.{◌≡◌, ◌++◌, take}
use Rattle.std.specs.List.{flat_map}
use Rattle.rvmc_explore.specs.HangTexts.{hang_rank_text}
use Rattle.rvmc_explore.proofs.hang_texts.put_ranks.Given as goal

-- those so far
abbrev pub invariant-loop-rank : goal.invariant-loop-rank
invariant-loop-rank l =
    l.text.items ≡ l.fn.text.items ++ flat_map (hang_rank_text l.image l.state l.resting) (take l.rank-index l.ranks)
