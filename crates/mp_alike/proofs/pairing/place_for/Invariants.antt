use Rattle.std.proofs.Common.{◌≡◌, ◌+◌, ◌≤◌, length}
use Rattle.std.specs.List.{position_from}
use Rattle.mp_match.specs.Pairs.{fits}
use Rattle.mp_alike.proofs.pairing.place_for.Given as goal

-- none so far
abbrev pub invariant-loop-line : goal.invariant-loop-line
invariant-loop-line l = record {
  none : position_from (fits l.new) 0 l.lines ≡ position_from (fits l.new) l.place l.rest;
  room : l.place + length l.rest ≤ length l.lines;
}

abbrev pub decreases-loop-line : goal.decreases-loop-line
decreases-loop-line l = length l.rest
