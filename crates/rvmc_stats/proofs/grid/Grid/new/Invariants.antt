use Rattle.std.specs.Prelude.{◌≡◌, replicate}
use Rattle.rvmc_stats.proofs.grid.Grid.new.Given as goal

-- the rows so far
abbrev pub invariant-loop-n : goal.invariant-loop-n
invariant-loop-n l = l.made.items ≡ replicate l._n (replicate l.columns 0)
