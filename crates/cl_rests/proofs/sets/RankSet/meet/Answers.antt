use Rattle.std.proofs.Common.{ap, ◌∙◌}
use Rattle.std.specs.Prelude.{◌&&◌}
use Rattle.cl_rests.specs.Sets.{in_set}
use Rattle.cl_rests.proofs.Members.{meet_in}
use Rattle.cl_rests.proofs.sets.RankSet.meet.Goals as goal

pub returns : goal.returns
returns c = λ r.
    meet_in c.self.inside.0 c.other.inside.0 r
    ∙ (ap (λ s. in_set s r && in_set c.other.inside.0 r) c.self.view_is
    ∙ ap (λ s. in_set c.args.self r && in_set s r) c.other.view_is)
