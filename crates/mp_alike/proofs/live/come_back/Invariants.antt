use Rattle.std.proofs.Common.{ℕ, ◌<◌, ◌≡◌}
use Rattle.mp_alike.specs.Names.{renamed}
use Rattle.mp_alike.specs.InnerLive.{origin}
use Rattle.mp_alike.proofs.live.come_back.Given as goal

abbrev pub invariant-loop-place : goal.invariant-loop-place
invariant-loop-place l = (k : ℕ) → k < l.place → origin l.back (renamed l.to k) ≡ k
