use Rattle.std.proofs.Common.{◌≡◌, replicate}
use Rattle.cl_replay.specs.Boxes.{vacant}
use Rattle.cl_replay.proofs.states.no_boxes.Given as goal

abbrev pub invariant-loop-link : goal.invariant-loop-link
invariant-loop-link l = l.boxes.items ≡ replicate l._link (replicate 16 (vacant 0))
