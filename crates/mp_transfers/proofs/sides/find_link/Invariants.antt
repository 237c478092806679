use Rattle.std.proofs.Common.{◌≡◌, ◌+◌, length}
use Rattle.std.specs.Prelude.{find}
use Rattle.std.specs.List.{enumerate_from}
use Rattle.mp_transfers.specs.Inits.{is_for}
use Rattle.mp_transfers.proofs.sides.find_link.Given as goal

-- the first fitting link is that of the links from this number on
abbrev pub invariant-loop-link : goal.invariant-loop-link
invariant-loop-link l = record {
  same : find (is_for l.sides l.new) (enumerate_from 0 l.links)
      ≡ find (is_for l.sides l.new) (enumerate_from l.number l.rest);
  place : l.number + length l.rest ≡ length l.links;
}

abbrev pub decreases-loop-link : goal.decreases-loop-link
decreases-loop-link l = length l.rest
