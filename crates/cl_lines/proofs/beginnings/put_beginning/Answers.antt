use Rattle.std.proofs.Common.{◌+◌, ap, arith, length}
use Rattle.std.proofs.lemmas.List.{length-drop, take_rest}
use Rattle.cl_lines.proofs.Pieces.{beginning_goes_on}
use Rattle.cl_lines.proofs.beginnings.put_beginning.Goals as goal

-- one more piece
pub loop-turn-preserved : goal.loop-turn-preserved
loop-turn-preserved g c =
    let line = c.args.line.now in
    let done = c.loop-turn.done in
    let some = c.in-Some.ensures in
    record {
      within = omega (arith, some.within, ap length (take_rest line done), length-drop done line, c.loop-turn.invariant.within);
      written = beginning_goes_on line _ _ _ done c.in-Some.count c.loop-turn.invariant.written some.some;
    }

pub returns-in-Some : goal.returns-in-Some
returns-in-Some g c =
    let line = c.args.line.now in
    let done = c.loop-turn.done in
    (done + c.in-Some.count, beginning_goes_on line _ _ _ done c.in-Some.count c.loop-turn.invariant.written c.in-Some.ensures.some)
