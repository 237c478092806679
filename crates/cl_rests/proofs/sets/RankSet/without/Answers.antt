use Rattle.std.proofs.Common.{ap, ◌∙◌}
use Rattle.std.specs.Prelude.{◌==◌, ◌&&◌, not}
use Rattle.cl_rests.specs.Sets.{in_set}
use Rattle.cl_rests.proofs.Members.{without_in, without_past}
use Rattle.cl_rests.proofs.sets.RankSet.without.Goals as goal

pub returns-then-rank-ge8 : goal.returns-then-rank-ge8
returns-then-rank-ge8 c = λ r.
    ap (λ s. in_set s r) c.self.view_is ∙ without_past c.args.self c.args.rank c.if-rank-ge8.true r

pub returns : goal.returns
returns c = λ r.
    without_in c.self.inside.0 c.args.rank c.if-rank-ge8.false r
    ∙ ap (λ s. in_set s r && not (r == c.args.rank)) c.self.view_is
