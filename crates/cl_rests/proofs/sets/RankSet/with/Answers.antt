use Rattle.std.proofs.Common.{ap, ◌∙◌}
use Rattle.std.specs.Prelude.{◌==◌, ◌&&◌, ◌||◌, nat_lt}
use Rattle.cl_rests.specs.Sets.{in_set}
use Rattle.cl_rests.proofs.Members.{with_in}
use Rattle.cl_rests.proofs.sets.RankSet.with.Goals as goal

pub returns : goal.returns
returns c = λ r.
    with_in c.self.inside.0 c.args.rank c.if-rank-ge8.false r
    ∙ ap (λ s. in_set s r || ((r == c.args.rank) && nat_lt c.args.rank 8)) c.self.view_is
