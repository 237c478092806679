use Rattle.mp_alike_laws.proofs.Rows as law
use Rattle.mp_alike.proofs.Told.{none_told}
use Rattle.mp_alike.proofs.worked.one_collected.Goals as goal

pub returns : goal.returns
returns c =
    none_told c.args.a.now c.args.b.now c.alike_names.result c.alike_names.ensures.some _ _ c.requires.first
    c.requires.second (law.worked_hubs).collected
