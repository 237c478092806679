use Rattle.std.proofs.Common.{◌≡◌}
use Rattle.std.specs.List.{flat_map, range_with_len}
use Rattle.rvmc_inspect.specs.WordTexts.{bytes_line, line_bytes}
use Rattle.rvmc_inspect.proofs.word_texts.bytes_text.Given as goal

-- the lines so far
abbrev pub invariant-loop-number : goal.invariant-loop-number
invariant-loop-number l = l.text.items ≡ flat_map (λ number. bytes_line (line_bytes l.bytes number)) (range_with_len 0 l.number)
