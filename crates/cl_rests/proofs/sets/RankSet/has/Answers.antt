use Rattle.std.proofs.Common.{sym, ap, ◌∙◌}
use Rattle.std.proofs.lemmas.Bool.{le-ltb}
use Rattle.cl_rests.specs.Sets.{in_set}
use Rattle.cl_rests.proofs.Members.{has_in, past_in}
use Rattle.cl_rests.proofs.sets.RankSet.has.Goals as goal

pub returns-then-rank-lt8 : goal.returns-then-rank-lt8
returns-then-rank-lt8 c =
    has_in c.self.inside.0 c.args.rank c.if-rank-lt8.true ∙ ap (λ s. in_set s c.args.rank) c.self.view_is

pub returns-else-rank-lt8 : goal.returns-else-rank-lt8
returns-else-rank-lt8 c =
    le-ltb c.args.rank 8 c.if-rank-lt8.false ∙ sym (past_in c.args.self c.args.rank c.if-rank-lt8.false)
