-- How the loop over the words stands before each turn: those before this one are others.
use Rattle.std.proofs.Common.{◌≡◌, drop, map}
use Rattle.std.specs.List.{list_any}
use Rattle.rvmc_hints.specs.Words.{is_rank_option}
use Rattle.rvmc_advice.proofs.mistyped.asks_for_ranks.Given as goal

abbrev pub invariant-loop-word : goal.invariant-loop-word
invariant-loop-word l =
    list_any is_rank_option (map (λ w. w.now) l.words)
    ≡ list_any is_rank_option (map (λ w. w.now) (drop l.word-index l.words))
