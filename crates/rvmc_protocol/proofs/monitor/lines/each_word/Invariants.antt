use Rattle.std.proofs.Common.{◌≡◌, ◌++◌, drop, map}
use Rattle.std.specs.Prelude.{filter, option_map}
use Rattle.rvmc_protocol.specs.Monitor.Lines.{is_some_text}
use Rattle.rvmc_words.specs.Debug.{debug_words_in}
use Rattle.rvmc_protocol.proofs.monitor.lines.each_word.Given as goal

-- the words so far, and those of the texts that are left
abbrev pub invariant-loop-text : goal.invariant-loop-text
invariant-loop-text l =
    debug_words_in (filter is_some_text (map (λ text. text.now) l.texts))
    ≡ option_map (λ rest. l.words ++ rest) (debug_words_in (filter is_some_text (map (λ text. text.now) (drop l.text-index l.texts))))
