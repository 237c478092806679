use Rattle.std.proofs.Common.{◌≡◌, ◌++◌, ◌∷◌, [], None, refl}
use Rattle.rv_asm_statements.specs.CodeViews.{argument_view}
use Rattle.rv_asm_statements.specs.Pieces.{first_operand, piece_view}
use Rattle.rv_asm_statements.proofs.Pieces.{behind_none, last_left, more_left, none_left}
use Rattle.rv_asm_statements.proofs.operand_list.first_pieces.Goals as goal

pub pieces-init : goal.pieces-init
pieces-init c = ([], c.none-few.ensures, rw c.again-rest.ensures (behind_none _))

pub returns-in-None : goal.returns-in-None
returns-in-None c =
    let front : piece_view None c.take_operand.new.tokens ≡ first_operand c.pieces.rest = rw c.in-None.is at c.take_operand.ensures.front in
    none_left c.pieces.rest c.take_operand.new.tokens _ _ front c.pieces.invariant.2

pub returns-then-not-piece : goal.returns-then-not-piece
returns-then-not-piece c =
    let done = c.pieces.invariant.0 in
    let whole = last_left c.pieces.rest c.take_operand.new.tokens c.in-Some.piece done _ c.in-Some.ensures.front c.if-not-piece.true c.pieces.invariant.2 in
    rw whole (refl, c.push.ensures done c.pieces.invariant.1)

pub pieces-smaller : goal.pieces-smaller
pieces-smaller c = c.in-Some.ensures.shorter

pub pieces-preserved : goal.pieces-preserved
pieces-preserved c =
    let done = c.pieces.invariant.0 in
    let more = more_left c.pieces.rest c.take_operand.new.tokens c.in-Some.piece done _ c.in-Some.ensures.front c.if-not-piece.false c.pieces.invariant.2 in
    (done ++ argument_view c.in-Some.piece.operand ∷ [], c.push.ensures done c.pieces.invariant.1, more)
