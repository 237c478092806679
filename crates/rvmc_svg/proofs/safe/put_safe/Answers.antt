use Rattle.std.proofs.Common.{◌∙◌, ◌++◌, [], ◌∷◌, ap, arith}
use Rattle.rvmc_draw.proofs.Taken.{taken_all, taken_more}
use Rattle.rvmc_svg.specs.Adding.{safe_one}
use Rattle.rvmc_svg.proofs.safe.put_safe.Goals as goal

-- one byte more
pub loop-byte-preserved : goal.loop-byte-preserved
unfolding safe_one
loop-byte-preserved c =
    taken_more safe_one c.args.bytes.now c.loop-byte.byte-index 0 c.args.text.now.items c.loop-byte.text.items
    c.push.new.self.items (omega (arith, c.loop-byte-test.true)) c.loop-byte.invariant
    (c.in_ok-push.ensures.items ∙ ap (λ b. c.loop-byte.text.items ++ b ∷ []) c.safe_byte.ensures)

-- all
pub returns : goal.returns
returns c =
    taken_all safe_one c.args.bytes.now c.loop-byte.byte-index c.args.text.now.items c.loop-byte.text.items
    (omega (arith, c.loop-byte-test.false)) c.loop-byte.invariant
