use Rattle.std.proofs.Common.{◌≡◌, ◌++◌, ◌∷◌, [], take}
use Rattle.std.specs.Fmt.{decimal}
use Rattle.std.specs.List.{flat_map}
use Rattle.rvmc_starts.proofs.words.put_numbers.Given as goal

abbrev pub invariant-loop-number : goal.invariant-loop-number
invariant-loop-number l =
    l.text.items ≡ l.initial.text.items ++ flat_map (λ n. (44 ∷ []) ++ decimal n) (take l.number-index l.others)
