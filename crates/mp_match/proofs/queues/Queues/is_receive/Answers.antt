use Rattle.std.proofs.Common.{Some, ap, sym, ◌∙◌, slice_get}
use Rattle.mp_match.specs.Board.{Board, is_receive_at}
use Rattle.mp_match.specs.InnerLive.{receives}
use Rattle.mp_match.specs.Live.{kept}
use Rattle.mp_match.proofs.Asked.{owner_at, receives_line}
use Rattle.mp_match.proofs.queues.Queues.is_receive.Goals as goal

pub returns-in-Some : goal.returns-in-Some
returns-in-Some c =
    let place = c.in-Some.place in
    let b = c.self.inside.history.board in
    c.receives.ensures
    ∙ ap receives (c.owner_at.ensures ∙ ap (λ l. slice_get l place) c.as_slice.ensures.value
    ∙ owner_at c.self.inside.owners.items (kept c.self.inside.table.map) b c.self.invariant.0 place)
    ∙ receives_line (slice_get b.lines place)
    ∙ ap (λ (x : Board). is_receive_at x (Some place)) c.self.view_is
    ∙ ap (is_receive_at c.args.self.now) (sym c.in-Some.is)
