use Rattle.std.proofs.Common.{◌∙◌}
use Rattle.cl_explore.proofs.Staying.{is_restored}
use Rattle.cl_explore.proofs.kept.KeptNode.bring_back_last.Goals as goal

pub returns : goal.returns
returns c = λ stayed.
    is_restored c.args.self.now c.args.standing.now c.args.rank c.requires.same stayed _ _ c.requires.there
    c.requires.here c.in_ok-hub.ensures c.in_ok-restore.ensures.restored c.in_ok-standing.ensures
    (c.in_ok-standing-2.ensures.items ∙ c.as_slice.ensures.value) c.new.ensures.items
