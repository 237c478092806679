use Rattle.std.proofs.Common.{◌∙◌}
use Rattle.mp_match.specs.Live.{kept}
use Rattle.mp_match.proofs.Kept.{stand_same}
use Rattle.mp_match.proofs.queues.Queues.copy_all.Goals as goal

pub invariant_of-result : goal.invariant_of-result
invariant_of-result c =
    let i = c.self.invariant in
    let l = c.self.inside in
    rw (c.again.ensures, c.in_ok-owners.ensures.items, c.as_slice.ensures.value) (
      stand_same l.owners.items (kept l.table.map) (kept c.in_ok-table.table.map) l.history.board i.0
          c.in_ok-table.ensures,
      i.1,
      i.2,
      λ k. c.in_ok-waiting.ensures.messages k ∙ i.3 k,
      λ k. c.in_ok-waiting.ensures.receives k ∙ i.4 k,
    )
