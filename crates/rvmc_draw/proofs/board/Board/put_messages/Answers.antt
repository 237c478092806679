use Rattle.std.proofs.Common.{arith}
use Rattle.rvmc_draw.specs.Board.{message}
use Rattle.rvmc_draw.proofs.Taken.{taken_all, taken_more}
use Rattle.rvmc_draw.proofs.board.Board.put_messages.Goals as goal

pub loop-number-preserved : goal.loop-number-preserved
loop-number-preserved c =
    taken_more (message c.args.self.now.lines.items c.args.self.now.spots.items c.args.to) c.args.numbers.now
    c.loop-number.number-index _ c.args.arrows.now.items c.loop-number.arrows.items
    c.put_message.new.arrows.items (omega (arith, c.loop-number-test.true)) c.loop-number.invariant
    c.in_ok-put_message.ensures

pub returns : goal.returns
returns c =
    taken_all (message c.args.self.now.lines.items c.args.self.now.spots.items c.args.to) c.args.numbers.now
    c.loop-number.number-index c.args.arrows.now.items c.loop-number.arrows.items
    (omega (arith, c.loop-number-test.false)) c.loop-number.invariant
