use Rattle.std.proofs.Common.{◌≡◌, length}
use Rattle.std.specs.Prelude.{◌↔◌}
use Rattle.mp_alike.proofs.alike.are_same_links.Given as goal

abbrev pub invariant-loop-link : goal.invariant-loop-link
invariant-loop-link l = (l.theirs ≡ l.mine) ↔ (l.others ≡ l.links)

abbrev pub decreases-loop-link : goal.decreases-loop-link
decreases-loop-link l = length l.links
