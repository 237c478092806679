use Rattle.std.proofs.Common.{◌∙◌, ◌+◌, ◌*◌, ◌<◌, All, arith, length, refl, replicate, subst, sym}
use Rattle.cl_run.specs.Driver.{stations}
use Rattle.cl_run.specs.UnderWay.{IsUnderWay}
use Rattle.cl_run.proofs.AheadSlots.{all_at_slots, nobody_named, zeros}
use Rattle.cl_run.proofs.Behind.{at_slots}
use Rattle.cl_run.proofs.driver.Driver.run_all.Goals as goal

pub round_ahead-requires-clause-there : goal.round_ahead-requires-clause-there
round_ahead-requires-clause-there c =
    subst (λ n. All (λ r. r < n) c.args.order.now) (sym c.loop-ahead.invariant.count) c.requires.there

pub loop-ahead-init : goal.loop-ahead-init
loop-ahead-init c = record {
  joined = c.requires.joined;
  count = refl;
  seated = λ plans seated. seated;
  goes = λ image plans seated start. (
    0,
    record {
      behind = stations c.args.self.now;
      ahead = at_slots plans (replicate 8 0) (stations c.args.self.now) (zeros 8);
      under_way = subst (λ n. IsUnderWay image plans c.args.order.now (stations c.args.self.now) c.args.self.now.hub n)
          (omega arith) start;
    },
  );
  named = λ r before. absurd (omega (arith, before, zeros 8 r));
}

pub returns-then-not-round_ahead : goal.returns-then-not-round_ahead
returns-then-not-round_ahead c =
    let kept = c.loop-ahead.invariant in
    let order = c.args.order.now in
    let goes = c.round_ahead.ensures in
    record {
      goes = λ image plans seated start.
          let far = kept.goes image plans seated start in
          let slot = (far.0 + 1) * length order in (
            slot,
            all_at_slots image plans order c.round_ahead.new.ahead c.round_ahead.new.self slot
                (goes.seated plans (kept.seated plans seated))
                (nobody_named order c.round_ahead.new.ahead (goes.named kept.named)
                (goes.at_slots c.if-not-round_ahead.true))
                (goes.goes image plans far.0 (kept.seated plans seated) far.1),
          );
      done = goes.done c.if-not-round_ahead.true;
      seated = λ plans seated. goes.seated plans (kept.seated plans seated);
    }

pub loop-ahead-preserved : goal.loop-ahead-preserved
loop-ahead-preserved c =
    let kept = c.loop-ahead.invariant in
    let goes = c.round_ahead.ensures in
    record {
      joined = goes.joined;
      count = goes.count ∙ kept.count;
      seated = λ plans seated. goes.seated plans (kept.seated plans seated);
      goes = λ image plans seated start.
          let far = kept.goes image plans seated start in
          (far.0 + 1, goes.goes image plans far.0 (kept.seated plans seated) far.1);
      named = goes.named kept.named;
    }
