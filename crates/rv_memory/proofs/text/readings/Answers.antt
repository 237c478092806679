use Rattle.std.proofs.Common.{◌*◌, ◌<◌, ◌^◌, ◌∷◌, [], List, length, length-append, ap, sym, subst, arith, ◌∙◌}
use Rattle.std.specs.Prelude.{Option}
use Rattle.rv_decode.specs.Decoded.{decoded}
use Rattle.rv_decode.specs.declared.instruction.Instr.{Instr}
use Rattle.rv_memory.specs.Readings.{AreReadings, IsReading}
use Rattle.rv_memory.proofs.Fetches.{one_read}
use Rattle.rv_memory.proofs.text.readings.Goals as goal

pub loop-k-preserved : goal.loop-k-preserved
loop-k-preserved c =
    let text = c.args.text.now in
    let before = c.loop-k.readings.items in
    let reading = c.decode.result in
    let so_far = c.loop-k.invariant in
    let items = c.in_ok-push.ensures.items in
    let long = ap (λ (readings : List (Option Instr)). length readings) items in
    let here : IsReading text (4 * c.loop-k.k) reading = record {
      inside = omega (arith, c.loop-k-test.true);
      low = subst (λ n. n < 2 ^ 32) c.value.ensures.value c.value.ensures.bound;
      decodes = c.decode.ensures.value ∙ ap decoded c.value.ensures.value;
    } in
    record {
      count = omega (arith, long, length-append before (reading ∷ []), so_far.count);
      read = subst (AreReadings text) (sym items)
          (one_read text before reading so_far.read
          (subst (λ n. IsReading text (4 * n) reading) (sym so_far.count) here));
    }
