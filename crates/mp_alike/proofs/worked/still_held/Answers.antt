use Rattle.mp_source_laws.specs.Rows.{anybody}
use Rattle.mp_source_laws.proofs.Rows as law
use Rattle.mp_alike.proofs.Told.{none_live}
use Rattle.mp_alike.proofs.worked.still_held.Goals as goal

pub returns : goal.returns
returns c =
    none_live anybody c.args.a.now c.args.b.now c.live_names.result c.live_names.ensures _ _ c.requires.first
    c.requires.second (law.worked_hubs).held
