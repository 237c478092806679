use Rattle.rvmc_list.proofs.KeptOnes.{none_more}
use Rattle.rvmc_list.proofs.kept.Texts.new.Goals as goal

pub loop-n-preserved : goal.loop-n-preserved
loop-n-preserved c = rw c.in_ok-push.ensures.items (none_more c.loop-n.kept.items c.loop-n.invariant)

pub returns : goal.returns
returns c = λ symbols k kept there. absurd (c.loop-n.invariant k kept there)
