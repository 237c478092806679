use Rattle.std.proofs.Common.{ap, ◌∙◌, ◌-◌, slice_get}
use Rattle.mp_match.specs.Board.{Board, line_of}
use Rattle.mp_match.specs.Live.{kept}
use Rattle.mp_match.specs.InnerLive.{owner_in}
use Rattle.mp_match.proofs.Asked.{owner_numbered}
use Rattle.mp_match.proofs.queues.Queues.owner.Goals as goal

pub returns : goal.returns
returns c =
    c.owner_at.ensures
    ∙ ap (λ l. slice_get l (c.args.post - 1)) c.as_slice.ensures.value
    ∙ owner_numbered c.self.inside.owners.items (kept c.self.inside.table.map) c.self.inside.history.board
    c.self.invariant.0 c.args.post c.if-post-eq0.false
    ∙ ap (λ (b : Board). owner_in (line_of b c.args.post)) c.self.view_is
