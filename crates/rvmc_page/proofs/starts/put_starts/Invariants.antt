use Rattle.std.proofs.Common.{◌≡◌, ◌++◌, take}
use Rattle.std.specs.List.{flat_map}
use Rattle.rvmc_page.specs.Starts.{rank_start_text}
use Rattle.rvmc_page.proofs.starts.put_starts.Given as goal

-- those so far
abbrev pub invariant-loop-rank : goal.invariant-loop-rank
invariant-loop-rank l = l.text.items ≡ l.fn.text.items ++ flat_map rank_start_text (take l.rank-index l.ranks)
