use Rattle.std.proofs.Common.{sym, ◌∙◌}
use Rattle.mp_match.specs.Live.{kept}
use Rattle.mp_match.proofs.Kept.{stand_forgotten}
use Rattle.mp_match.proofs.queues.Queues.forget.Goals as goal

pub invariant_of-self : goal.invariant_of-self
invariant_of-self c =
    let i = c.self.invariant in (
      stand_forgotten c.self.inside.owners.items (kept c.self.inside.table.map) c.self.inside.history.board i.0
          c.args.send c.in-Some.place (sym c.spent_by.ensures ∙ c.in-Some.is) (kept c.remove.new.self.map)
          (kept c.remove-then-has_taken.new.self.map) (sym c.has_taken.ensures ∙ c.if-has_taken.true)
          c.remove.ensures c.remove-then-has_taken.ensures,
      i.1,
      i.2,
      i.3,
      i.4,
    )
