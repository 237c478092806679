use Rattle.mp_alike_laws.proofs.Rows as law
use Rattle.mp_alike.proofs.Told.{some_told}
use Rattle.mp_alike.proofs.worked.to_two_ranks.Goals as goal

pub returns : goal.returns
returns c =
    some_told c.args.a.now c.args.b.now c.alike_names.result c.alike_names.ensures.none _ _ c.requires.first
    c.requires.second (law.worked_hubs).two_ranks
