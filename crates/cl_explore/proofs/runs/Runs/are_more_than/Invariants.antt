use Rattle.std.proofs.Common.{◌≡◌, ◌≤◌, length, take}
use Rattle.cl_explore.specs.Runs.{all_turns}
use Rattle.cl_explore.proofs.runs.Runs.are_more_than.Given as goal

-- the count is no more than the turns of the first runs
abbrev pub invariant-loop-place : goal.invariant-loop-place
invariant-loop-place l =
    (l.count ≤ length (all_turns (take l.place l.runs))) × (length (all_turns l.runs) ≡ length l.self)
