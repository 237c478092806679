use Rattle.std.proofs.Common.{rules, ◌≡◌}
use Rattle.std.specs.Prelude.{string_bytes}
use Rattle.rv_hart.specs.State.{read}
use Rattle.rvmc_inspect.specs.WordTexts.{register_line}
use Rattle.rvmc_inspect.proofs.Lines.{line_more}
use Rattle.rvmc_inspect.proofs.word_texts.put_registers.Goals as goal

pub loop-number-preserved : goal.loop-number-preserved
loop-number-preserved c =
    let number = c.loop-number.number in
    let hart = c.args.hart.now in
    let value : c.get-value.result ≡ read hart number = search rules in
    let line : string_bytes c.in_ok-line.line ≡ register_line number (read hart number) = search (rules, value) in
    line_more (λ n. register_line n (read hart n)) c.args.text.now.items c.loop-number.text.items (string_bytes c.in_ok-line.line) _ number
    c.loop-number.invariant line (search rules)
