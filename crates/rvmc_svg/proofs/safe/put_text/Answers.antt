use Rattle.std.proofs.Common.{arith}
use Rattle.rvmc_draw.proofs.Taken.{taken_all, taken_more}
use Rattle.rvmc_svg.specs.Escaped.{escaped}
use Rattle.rvmc_svg.proofs.safe.put_text.Goals as goal

-- one byte more
pub loop-byte-preserved : goal.loop-byte-preserved
loop-byte-preserved c =
    taken_more escaped c.args.bytes.now c.loop-byte.byte-index 0 c.args.text.now.items c.loop-byte.text.items
    c.put_byte.new.text.items (omega (arith, c.loop-byte-test.true)) c.loop-byte.invariant c.in_ok-put_byte.ensures

-- all
pub returns : goal.returns
returns c =
    taken_all escaped c.args.bytes.now c.loop-byte.byte-index c.args.text.now.items c.loop-byte.text.items
    (omega (arith, c.loop-byte-test.false)) c.loop-byte.invariant
