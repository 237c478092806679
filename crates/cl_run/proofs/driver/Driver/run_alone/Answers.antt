use Rattle.std.proofs.Common.{ℕ, ◌≡◌, ◌∙◌, ◌+◌, ◌*◌, ◌<◌, refl, length, subst, sym, arith, All}
use Rattle.cl_run.specs.Driver.{stations}
use Rattle.cl_run.specs.UnderWay.{IsUnderWay}
use Rattle.cl_run.proofs.driver.Driver.run_alone.Goals as goal

pub go_on-requires-clause-there : goal.go_on-requires-clause-there
go_on-requires-clause-there c =
    subst (λ n. All (λ r. r < n) c.args.order.now) (sym c.loop.invariant.count) c.requires.there

pub round-requires-clause-there : goal.round-requires-clause-there
round-requires-clause-there c =
    subst (λ n. All (λ r. r < n) c.args.order.now) (sym (c.go_on.ensures.count ∙ c.loop.invariant.count)) c.requires.there

pub returns-then-not-round : goal.returns-then-not-round
returns-then-not-round c =
    let kept = c.loop.invariant in
    record {
      goes = λ image plans seated start.
          let far = kept.goes image plans seated start in
          let on = c.go_on.ensures.goes image plans far.0 (kept.seated plans seated) far.1 in (
            (on.0 + 1) * length c.args.order.now,
            c.round.ensures.goes image plans on.0 (c.go_on.ensures.seated plans (kept.seated plans seated)) on.1,
          );
      done = c.round.ensures.done c.if-not-round.true;
      seated = λ plans seated. c.round.ensures.seated plans (c.go_on.ensures.seated plans (kept.seated plans seated));
    }

pub loop-preserved : goal.loop-preserved
loop-preserved c =
    let kept = c.loop.invariant in
    record {
      joined = c.round.ensures.joined;
      count = c.round.ensures.count ∙ (c.go_on.ensures.count ∙ kept.count);
      seated = λ plans seated. c.round.ensures.seated plans (c.go_on.ensures.seated plans (kept.seated plans seated));
      goes = λ image plans seated start.
          let far = kept.goes image plans seated start in
          let on = c.go_on.ensures.goes image plans far.0 (kept.seated plans seated) far.1 in
          (on.0 + 1, c.round.ensures.goes image plans on.0 (c.go_on.ensures.seated plans (kept.seated plans seated)) on.1);
    }

pub loop-init : goal.loop-init
loop-init c = record {
  joined = c.requires.joined;
  count = refl;
  seated = λ plans seated. seated;
  goes = λ image plans seated start.
      let none : ◌≡◌ {A = ℕ} 0 (0 * length c.args.order.now) = omega arith in (
        0,
        subst (IsUnderWay image plans c.args.order.now (stations c.args.self.now) c.args.self.now.hub) none start,
      );
}

pub loop-smaller : goal.loop-smaller
loop-smaller c = omega (arith, c.round.ensures.less c.if-not-round.false, c.go_on.ensures.no_more)
