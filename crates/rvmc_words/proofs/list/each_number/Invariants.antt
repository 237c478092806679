use Rattle.std.proofs.Common.{◌≡◌, ◌++◌, drop, map}
use Rattle.std.specs.Prelude.{option_map}
use Rattle.rvmc_words.specs.Number.{each_number}
use Rattle.rvmc_words.proofs.list.each_number.Given as goal

-- the numbers so far, and those of the texts that are left
abbrev pub invariant-loop-text : goal.invariant-loop-text
invariant-loop-text l =
    each_number (map (λ text. text.now) l.texts) ≡ option_map (λ rest. l.items.items ++ rest) (each_number (map (λ text. text.now) (drop l.text-index l.texts)))
