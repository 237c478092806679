use Rattle.std.proofs.Common.{ℕ, ◌<◌}
use Rattle.mp_match.specs.declared.posts.Line.{Line}
use Rattle.mp_alike.specs.InnerLive.{IsLive, KeepsRank}
use Rattle.mp_alike.proofs.live.keeps_ranks.Given as goal

abbrev pub invariant-loop-place : goal.invariant-loop-place
invariant-loop-place l =
    (k : ℕ) → k < l.place → (line : Line) → IsLive l.board k line
    → (behind : ℕ) → KeepsRank l.to l.board k line behind
