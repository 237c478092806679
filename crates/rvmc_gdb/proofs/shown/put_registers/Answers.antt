use Rattle.std.proofs.Common.{rules, ◌≡◌}
use Rattle.rv_hart.specs.State.{read}
use Rattle.rvmc_picture.proofs.Below.{line_more}
use Rattle.rvmc_protocol.specs.Replies.Digits.{register_text}
use Rattle.rvmc_gdb.proofs.shown.put_registers.Goals as goal

pub loop-number-preserved : goal.loop-number-preserved
loop-number-preserved c =
    let number = c.loop-number.number in
    let hart = c.args.hart.now in
    let value : c.get-value.result ≡ read hart number = search rules in
    line_more (λ n. register_text (read hart n)) c.args.text.now.items c.loop-number.text.items (register_text c.get-value.result) _
    number c.loop-number.invariant (search (rules, value)) (search rules)
