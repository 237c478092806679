use Rattle.std.proofs.Common.{arith}
use Rattle.rvmc_picture.specs.Below.{padded_hex}
use Rattle.rvmc_draw.proofs.Taken.{taken_all, taken_more}
use Rattle.rvmc_page.proofs.safe.put_bytes.Goals as goal

pub loop-byte-preserved : goal.loop-byte-preserved
loop-byte-preserved c =
    taken_more (padded_hex 2) c.args.bytes.now c.loop-byte.byte-index _ c.args.text.now.items
    c.loop-byte.text.items c.put_hex_2.new.text.items (omega (arith, c.loop-byte-test.true)) c.loop-byte.invariant
    c.in_ok-put_hex_2.ensures

pub returns : goal.returns
returns c =
    taken_all (padded_hex 2) c.args.bytes.now c.loop-byte.byte-index c.args.text.now.items
    c.loop-byte.text.items (omega (arith, c.loop-byte-test.false)) c.loop-byte.invariant
