use Rattle.std.proofs.Common.{◌≡◌, ◌++◌, drop, map}
use Rattle.std.specs.Prelude.{option_map}
use Rattle.rvmc_cli.specs.Sources.{each_size}
use Rattle.rvmc_cli.proofs.sources.each_size.Given as goal

-- the sources so far, and those of the texts that are left
abbrev pub invariant-loop-text : goal.invariant-loop-text
invariant-loop-text l =
    each_size (map (λ text. text.now) l.texts) ≡ option_map (λ rest. l.sizes ++ rest) (each_size (map (λ text. text.now) (drop l.text-index l.texts)))
