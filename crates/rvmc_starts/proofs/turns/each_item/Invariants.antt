use Rattle.std.proofs.Common.{◌≡◌, ◌++◌, drop, map}
use Rattle.std.specs.Prelude.{option_map}
use Rattle.rvmc_starts.specs.Turns.{each_item}
use Rattle.rvmc_starts.proofs.turns.each_item.Given as goal

abbrev pub invariant-loop-text : goal.invariant-loop-text
invariant-loop-text l =
    each_item (map (λ text. text.now) l.texts) ≡ option_map (λ rest. l.items.items ++ rest) (each_item (map (λ text. text.now) (drop l.text-index l.texts)))
