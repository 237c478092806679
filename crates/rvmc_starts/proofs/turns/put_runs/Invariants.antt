use Rattle.std.proofs.Common.{◌≡◌, ◌++◌, ◌∷◌, [], take}
use Rattle.std.specs.List.{flat_map}
use Rattle.rvmc_starts.specs.Turns.{run_text}
use Rattle.rvmc_starts.proofs.turns.put_runs.Given as goal

abbrev pub invariant-loop-run : goal.invariant-loop-run
invariant-loop-run l =
    l.text.items ≡ l.initial.text.items ++ flat_map (λ run. (44 ∷ []) ++ run_text run) (take l.run-index l.others)
