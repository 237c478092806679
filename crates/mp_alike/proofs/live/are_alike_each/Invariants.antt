use Rattle.std.proofs.Common.{ℕ, ◌<◌}
use Rattle.mp_alike.specs.InnerLive.{IsLiveAlikeAt}
use Rattle.mp_alike.proofs.live.are_alike_each.Given as goal

abbrev pub invariant-loop-place : goal.invariant-loop-place
invariant-loop-place l = (k : ℕ) → k < l.place → IsLiveAlikeAt l.to l.mine l.theirs k
