use Rattle.rvmc_serve.proofs.Hearing.{all_behind, cut_then, some_behind, whole_then}
use Rattle.rvmc_serve.proofs.serving.talk_behind.Goals as goal

-- what was read before, and then the rest
pub returns-in-On-clause-whole : goal.returns-in-On-clause-whole
returns-in-On-clause-whole g c = λ bytes known.
    let said = c.in_ok-answered.ensures.serves in
    whole_then c.talk.result _ _ (all_behind _ _ c.args.first.now bytes said.0 _ _ _ said.1 said.2)
    (c.talk.ensures.whole bytes known)

pub returns-in-On-clause-cut : goal.returns-in-On-clause-cut
returns-in-On-clause-cut g c = λ bytes known.
    let said = c.in_ok-answered.ensures.serves in
    cut_then c.talk.result _ _ (some_behind _ _ c.args.first.now bytes said.0 _ _ _ said.1 said.2)
    (c.talk.ensures.cut bytes known)
