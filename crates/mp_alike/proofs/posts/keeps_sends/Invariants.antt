use Rattle.std.proofs.Common.{ℕ, ◌<◌}
use Rattle.mp_match.specs.declared.posts.Sent.{Sent}
use Rattle.mp_alike_laws.specs.Alike.{IsUnpaired}
use Rattle.mp_alike.specs.InnerAlike.{KeepsSend}
use Rattle.mp_alike.proofs.posts.keeps_sends.Given as goal

abbrev pub invariant-loop-place : goal.invariant-loop-place
invariant-loop-place l =
    (k : ℕ) → k < l.place → (s : Sent) → IsUnpaired l.lines k s → (behind : ℕ) → KeepsSend l.to l.lines k s behind
