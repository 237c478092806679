use Rattle.std.proofs.Common.{arith, ◌∙◌}
use Rattle.cl_contests.proofs.Passing.{has_all, has_more}
use Rattle.cl_contests.proofs.patterns.Patterns.add_all.Goals as goal

pub returns-clause-adds : goal.returns-clause-adds
returns-clause-adds c =
    has_all c.args.others.now.kept.items c.loop-asked.self.kept.items c.loop-asked.asked-index c.loop-asked.invariant.below
    (omega (arith, c.loop-asked-test.false, c.as_slice-asked-items.ensures.len, c.args.others.now.kept.ok.0))

pub loop-asked-preserved : goal.loop-asked-preserved
loop-asked-preserved c = record {
  below = has_more c.args.others.now.kept.items c.loop-asked.self.kept.items c.loop-asked.asked-index
      c.loop-asked.invariant.below _ c.as_slice-asked-items.result.now c.keep.new.self.kept.items c.as_slice-asked-items.ensures.value
      (omega (arith, c.loop-asked-test.true, c.as_slice-asked-items.ensures.len, c.args.others.now.kept.ok.0))
      c.in_ok-keep.ensures.keeps c.in_ok-keep.ensures.has;
  keeps = λ r wanted has. c.in_ok-keep.ensures.keeps r wanted (c.loop-asked.invariant.keeps r wanted has);
  still = c.in_ok-keep.ensures.still ∙ c.loop-asked.invariant.still;
}
