use Rattle.std.proofs.Common.{◌≡◌, drop, map}
use Rattle.rvmc_cli.specs.Files.{is_among}
use Rattle.rvmc_cli.proofs.files.is_among.Given as goal

-- whether the word is one of the options is up to those that are left
abbrev pub invariant-loop-option : goal.invariant-loop-option
invariant-loop-option l =
    is_among (map (λ option. option.now) l.options) l.word
    ≡ is_among (map (λ option. option.now) (drop l.option-index l.options)) l.word
