use Rattle.std.proofs.Common.{refl}
use Rattle.mp_match.specs.Live.{kept}
use Rattle.mp_match.proofs.Kept.{stand_compared}
use Rattle.mp_match.proofs.queues.Queues.set_compared.Goals as goal

pub invariant_of-self : goal.invariant_of-self
invariant_of-self c =
    let i = c.self.invariant in
    rw c.with_compared-self-inside.ensures (
      stand_compared c.self.inside.owners.items (kept c.self.inside.table.map) c.self.inside.history.board
          c.args.compared i.0,
      i.1,
      refl,
      i.3,
      i.4,
    )
