use Rattle.std.proofs.Common.{ℕ, List, ◌+◌, drop}
use Rattle.rvmc_explore.specs.Telling.{AddsOutcomes}
use Rattle.rvmc_explore.proofs.telling.put_told.Given as goal

-- behind what was told, the outcomes that are left are told
abbrev pub invariant-loop-place : goal.invariant-loop-place
invariant-loop-place l =
    (whole : List ℕ) → AddsOutcomes (l.place + 1) (drop l.place l.told) l.text.items whole
    → AddsOutcomes (l.from + 1) (drop l.from l.told) l.fn.text.items whole
