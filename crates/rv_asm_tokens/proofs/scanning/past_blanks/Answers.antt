use Rattle.std.proofs.Common.{◌∙◌, arith, sym}
use Rattle.rv_asm_tokens.proofs.Steps.{blank_goes}
use Rattle.rv_asm_tokens.proofs.scanning.past_blanks.Goals as goal

pub loop-at-preserved : goal.loop-at-preserved
loop-at-preserved c = record {
  onward = omega arith;
  inside = omega arith;
  same = λ done. blank_goes c.loop-at.at done c.args.bytes.now c.loop-at-test.true (sym c.is_blank.ensures ∙ c.if-is_blank.true) ∙ c.loop-at.invariant.same done;
}
