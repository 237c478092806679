use Rattle.std.proofs.Common.{◌≡◌, length}
use Rattle.std.specs.Prelude.{◌↔◌}
use Rattle.mp_alike.proofs.alike.are_same_claims.Given as goal

abbrev pub invariant-loop-claim : goal.invariant-loop-claim
invariant-loop-claim l = (l.theirs ≡ l.mine) ↔ (l.left ≡ l.claims)

abbrev pub decreases-loop-claim : goal.decreases-loop-claim
decreases-loop-claim l = length l.claims
