use Rattle.std.proofs.Common.{◌≡◌, List, length}
use Rattle.rv_asm_statements.specs.Arguments.{Argument}
use Rattle.rv_asm_statements.specs.First.{AreFirst}
use Rattle.rv_asm_statements.specs.Pieces.{pieces_of}
use Rattle.rv_asm_statements.proofs.Pieces.{behind}
use Rattle.rv_asm_statements.proofs.operand_list.first_pieces.Given as goal

-- the operands are those that were taken, and those of what is left
abbrev pub invariant-pieces : goal.invariant-pieces
invariant-pieces l = (done : List Argument) × AreFirst l.few done × (pieces_of l.tokens ≡ behind done (pieces_of l.rest))

abbrev pub decreases-pieces : goal.decreases-pieces
decreases-pieces l = length l.rest
