use Rattle.std.proofs.Common.{◌≡◌, [], arith, refl}
use Rattle.std.proofs.lemmas.Grind.{common_steps}
use Rattle.mp_match.specs.Live.{kept}
use Rattle.mp_match.proofs.Kept.{has_none, stand_none}
use Rattle.mp_match.proofs.queues.Queues.try_copy.Goals as goal

pub invariant_of-result : goal.invariant_of-result
invariant_of-result c =
    let l = c.self.inside in
    let none : l.owners.items ≡ [] = grind (arith, common_steps) in
    let no_posts = has_none l.owners.items (kept l.table.map) l.history.board c.self.invariant.0 none in
    rw (c.again.ensures, c.new.ensures.items) (
      stand_none (kept c.new-then-is_empty.result.map) l.history.board no_posts c.new-then-is_empty.ensures,
      rw no_posts.bodies refl,
      c.self.invariant.2,
      rw no_posts.lines c.new-then-is_empty-2.ensures.messages,
      rw no_posts.lines c.new-then-is_empty-2.ensures.receives,
    )
