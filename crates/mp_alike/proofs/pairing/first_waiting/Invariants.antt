use Rattle.std.proofs.Common.{◌≡◌, ◌+◌, ◌≤◌, length}
use Rattle.std.specs.List.{position_from}
use Rattle.mp_match.specs.Waiting.{is_open_at, receive_key}
use Rattle.mp_alike.proofs.pairing.first_waiting.Given as goal

-- none so far
abbrev pub invariant-loop-line : goal.invariant-loop-line
invariant-loop-line l = record {
  none : position_from (is_open_at receive_key l.key) 0 l.lines ≡ position_from (is_open_at receive_key l.key) l.place l.rest;
  room : l.place + length l.rest ≤ length l.lines;
}

abbrev pub decreases-loop-line : goal.decreases-loop-line
decreases-loop-line l = length l.rest
