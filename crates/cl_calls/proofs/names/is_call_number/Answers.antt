use Rattle.std.proofs.Common.{ap, sym, ◌∙◌}
use Rattle.cl_calls.specs.Names.{name_in}
use Rattle.cl_calls.proofs.Numbers.{below_end}
use Rattle.cl_calls.proofs.names.is_call_number.Goals as goal

pub returns-in-Some-clause-below : goal.returns-in-Some-clause-below
returns-in-Some-clause-below c =
    let found = ap (name_in c.args.number) (sym c.all_calls.ensures) ∙ c.in-Some.ensures in
    λ _. below_end c.args.number _ found
