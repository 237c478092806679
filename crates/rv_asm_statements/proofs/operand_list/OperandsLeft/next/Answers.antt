use Rattle.std.proofs.Common.{Some, None, ◌≡◌, sym, ◌∙◌}
use Rattle.rv_asm_statements.specs.Pieces.{first_operand, piece_view}
use Rattle.rv_asm_statements.proofs.Pieces.{next_none, next_some}
use Rattle.rv_asm_statements.proofs.operand_list.OperandsLeft.next.Goals as goal

pub invariant_of-self : goal.invariant_of-self
invariant_of-self c =
    let before = c.self.inside.tokens in
    let front : piece_view (Some c.in-Some.piece) c.take_operand.new.tokens ≡ first_operand before = rw (c.in-Some.is, c.again-tokens.ensures) at c.take_operand.ensures.front in
    let last = (rw c.in-Some.is at c.take_operand.ensures.last) in
    (next_some before c.take_operand.new.tokens c.in-Some.piece c.self.invariant front last).1

pub returns-in-None : goal.returns-in-None
returns-in-None c =
    let before = c.self.inside.tokens in
    let front : piece_view None c.take_operand.new.tokens ≡ first_operand before = rw (c.in-None.is, c.again-tokens.ensures) at c.take_operand.ensures.front in
    let none = sym c.self.view_is ∙ next_none before c.take_operand.new.tokens c.self.invariant front in
    (none, none)

pub returns-in-Some : goal.returns-in-Some
returns-in-Some c =
    let before = c.self.inside.tokens in
    let front : piece_view (Some c.in-Some.piece) c.take_operand.new.tokens ≡ first_operand before = rw (c.in-Some.is, c.again-tokens.ensures) at c.take_operand.ensures.front in
    let last = (rw c.in-Some.is at c.take_operand.ensures.last) in
    sym c.self.view_is ∙ (next_some before c.take_operand.new.tokens c.in-Some.piece c.self.invariant front last).0
