use Rattle.std.proofs.Common.{◌≡◌, ◌++◌}
use Rattle.std.specs.List.{flat_map, range_with_len}
use Rattle.rv_hart.specs.State.{read}
use Rattle.rvmc_inspect.specs.WordTexts.{register_line}
use Rattle.rvmc_inspect.proofs.word_texts.put_registers.Given as goal

-- the registers so far
abbrev pub invariant-loop-number : goal.invariant-loop-number
invariant-loop-number l =
    l.text.items ≡ l.fn.text.items ++ flat_map (λ n. register_line n (read l.hart n)) (range_with_len 0 l.number)
