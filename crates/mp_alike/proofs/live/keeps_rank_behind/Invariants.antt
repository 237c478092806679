use Rattle.std.proofs.Common.{ℕ, ◌<◌}
use Rattle.mp_alike.specs.InnerLive.{KeepsRank}
use Rattle.mp_alike.proofs.live.keeps_rank_behind.Given as goal

abbrev pub invariant-loop-behind : goal.invariant-loop-behind
invariant-loop-behind l = (k : ℕ) → k < l.behind → KeepsRank l.to l.board l.place l.line k
