use Rattle.std.proofs.Common.{◌≡◌, ◌+◌, ◌++◌, drop}
use Rattle.rvmc_starts.specs.Joining.{told_texts}
use Rattle.rvmc_starts.proofs.joining.put_all_told.Given as goal

abbrev pub invariant-loop-place : goal.invariant-loop-place
invariant-loop-place l =
    l.text.items ++ told_texts (l.place + 1) (drop l.place l.ends) ≡ l.fn.text.items ++ told_texts 1 l.ends
