use Rattle.std.specs.Prelude.{Option}
use Rattle.std.proofs.Common.{ap, subst, IfOk, ◌∙◌}
use Rattle.mp_types.specs.declared.messages.Message.{Message}
use Rattle.mp_match.specs.Board.{Board, message_at}
use Rattle.mp_match.specs.Live.{kept}
use Rattle.mp_match.specs.Twins.{IsTwinOf}
use Rattle.mp_match.proofs.Asked.{message_is}
use Rattle.mp_match.proofs.queues.Queues.twin_at.Goals as goal

pub returns-clause-twin : goal.returns-clause-twin
returns-clause-twin c =
    let same = message_is c.self.inside.owners.items (kept c.self.inside.table.map) c.self.inside.history.board
    c.self.invariant.0 c.args.place
    ∙ ap (λ (b : Board). message_at b c.args.place) c.self.view_is in
    subst (λ (x : Option Message). IfOk c.twin.result (λ twin. IsTwinOf x twin)) same c.twin.ensures.twin
