use Rattle.std.proofs.Common.{◌||◌, sym, ap, ◌∙◌}
use Rattle.mp_match.specs.Board.{is_receive_at}
use Rattle.mp_match.proofs.queues.Queues.is_line_finished.Goals as goal

pub returns-then-is_standard : goal.returns-then-is_standard
returns-then-is_standard c =
    let standard = sym (c.is_standard.ensures c.args.line.partner) ∙ c.if-is_standard.true in
    c.if-is_standard.true ∙ sym (ap (λ x. x || is_receive_at c.args.self.now c.args.line.partner) standard)

pub returns-else-is_standard : goal.returns-else-is_standard
returns-else-is_standard c =
    let standard = sym (c.is_standard.ensures c.args.line.partner) ∙ c.if-is_standard.false in
    c.is_receive.ensures ∙ sym (ap (λ x. x || is_receive_at c.args.self.now c.args.line.partner) standard)
