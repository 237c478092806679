use Rattle.std.proofs.Common.{◌==◌, ◌&&◌, ◌||◌, nat_lt, ap, sym, ◌∙◌}
use Rattle.cl_rests.specs.Sets.{in_set}
use Rattle.cl_rests.proofs.Members.{or_false}
use Rattle.cl_rests.proofs.resting.with_if.Goals as goal

pub returns-then-is_one : goal.returns-then-is_one
returns-then-is_one c = λ r.
    c.with.ensures r
    ∙ sym (ap (λ t. in_set c.args.ranks r || (t && ((r == c.args.rank) && nat_lt c.args.rank 8))) c.if-is_one.true)

pub returns-else-is_one : goal.returns-else-is_one
returns-else-is_one c = λ r.
    sym (ap (λ t. in_set c.args.ranks r || (t && ((r == c.args.rank) && nat_lt c.args.rank 8))) c.if-is_one.false
    ∙ or_false (in_set c.args.ranks r))
