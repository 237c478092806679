use Rattle.cl_ending.proofs.Judged.{whole_judged}
use Rattle.cl_ending.proofs.one.judge_whole.Goals as goal

pub returns-clause-judged : goal.returns-clause-judged
returns-clause-judged c =
    whole_judged c.args.image.now c.args.plans.now c.args.order.now c.args.left c.requires.run c.requires.merged
    c.requires.arrived c.in-Ok.stuck c.in-Ok.ensures.free c.in-Ok.ensures.stuck
