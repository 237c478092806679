use Rattle.std.proofs.Common.{◌≡◌, drop, map}
use Rattle.rvmc_cli.specs.Files.{names_of, walked}
use Rattle.rvmc_cli.specs.declared.files.Asks.TheVariants as asks
use Rattle.rvmc_cli.proofs.files.walked.Given as goal

-- what all words name is what those so far do, and behind them those that are left
abbrev pub invariant-loop-word : goal.invariant-loop-word
invariant-loop-word l =
    walked (map (λ option. option.now) l.options) asks.Nothing (names_of l.initial.named) (map (λ word. word.now) l.words)
    ≡ walked (map (λ option. option.now) l.options) l.ask (names_of l.named) (map (λ word. word.now) (drop l.word-index l.words))
