use Rattle.std.proofs.Common.{ℕ, ◌<◌}
use Rattle.mp_alike.specs.InnerAlike.{KeepsSend}
use Rattle.mp_alike.proofs.posts.keeps_sends_behind.Given as goal

abbrev pub invariant-loop-behind : goal.invariant-loop-behind
invariant-loop-behind l = (k : ℕ) → k < l.behind → KeepsSend l.to l.lines l.place l.s k
