use Rattle.std.proofs.Common.{◌∷◌, [], Some, arith, ap, ◌∙◌}
use Rattle.mp_match.specs.Board.{Board, held_count, message_at, message_in}
use Rattle.mp_match.specs.Live.{kept}
use Rattle.mp_match.proofs.Asked.{body_is, message_is}
use Rattle.mp_match.proofs.Kept.{stand_taken}
use Rattle.mp_match.proofs.Rows.{held_set}
use Rattle.mp_match.proofs.queues.Queues.take.Goals as goal

-- what is taken was counted
pub overflow_sub-self : goal.overflow_sub-self
overflow_sub-self c =
    let h = held_set c.self.inside.history.board.bodies c.args.place in
    let f = c.count_of.ensures
    ∙ ap (λ body. held_count (body ∷ []))
    (c.take_body-body.ensures.body
    ∙ body_is c.self.inside.owners.items (kept c.self.inside.table.map) c.self.inside.history.board
    c.self.invariant.0 c.args.place) in
    omega (arith, h, f, c.self.invariant.1)

pub invariant_of-self : goal.invariant_of-self
invariant_of-self c =
    let i = c.self.invariant in
    let h = held_set c.self.inside.history.board.bodies c.args.place in
    let f = c.count_of.ensures
    ∙ ap (λ body. held_count (body ∷ []))
    (c.take_body-body.ensures.body
    ∙ body_is c.self.inside.owners.items (kept c.self.inside.table.map) c.self.inside.history.board i.0
    c.args.place) in
    rw c.without-self-inside.ensures (
      stand_taken c.self.inside.owners.items (kept c.self.inside.table.map) (kept c.take_body-body.new.self.map)
          c.self.inside.history.board c.args.place i.0 c.take_body-body.ensures.after,
      omega (arith, h, f, i.1),
      i.2,
      i.3,
      i.4,
    )

pub returns-clause-message : goal.returns-clause-message
returns-clause-message c =
    c.message_of.ensures
    ∙ (λ i. message_in (c.envelope-envelope.ensures i) (Some (c.take_body-body.ensures.body i)))
    ∙ message_is c.self.inside.owners.items (kept c.self.inside.table.map) c.self.inside.history.board
    c.self.invariant.0 c.args.place
    ∙ ap (λ (b : Board). message_at b c.args.place) c.self.view_is
