use Rattle.std.proofs.Common.{map, sym, arith}
use Rattle.std.proofs.lemmas.List.{length-map}
use Rattle.rv_asm_statements.specs.CodeViews.{argument_view}
use Rattle.rv_asm_statements.proofs.OtherCounts.{reg_reg_target_at-other}
use Rattle.rv_asm_statements.proofs.shapes.reg_reg_target.Goals as goal
use Rattle.rv_asm_statements.proofs.shapes.reg_reg_target.Goals.{in_default-via-then-operands-lt3, in_default-via-else-operands-lt3+else-operands-lt4}

pub returns-in_default : goal.returns-in_default
returns-in_default c =
    let xs = c.args.operands.now in
    elim c.in_default.branch [
      | in_default-via-then-operands-lt3 w ↦ sym (reg_reg_target_at-other (map argument_view xs) (λ same. grind (arith, length-map xs argument_view)))
      | in_default-via-else-operands-lt3+else-operands-lt4 w ↦ sym (reg_reg_target_at-other (map argument_view xs) (λ same. grind (arith, length-map xs argument_view)))
    ]
