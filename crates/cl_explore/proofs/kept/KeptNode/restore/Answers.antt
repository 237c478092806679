use Rattle.std.proofs.lemmas.Result.{on_ok_weaker}
use Rattle.cl_explore.proofs.kept.KeptNode.restore.Goals as goal

pub returns : goal.returns
returns c =
    on_ok_weaker c.bring_back_last.result (λ live came. live (c.in_ok-bring_back_others.ensures came))
    c.bring_back_last.ensures

pub returns-then-not-is_beside : goal.returns-then-not-is_beside
returns-then-not-is_beside c = on_ok_weaker c.renew.result (λ live came. live) c.renew.ensures
