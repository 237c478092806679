use Rattle.std.proofs.Common.{ap, ◌∙◌}
use Rattle.mp_match.specs.Board.{Board}
use Rattle.mp_match.specs.Claimed.{holds}
use Rattle.mp_match.specs.Live.{kept}
use Rattle.mp_match.proofs.Asked.{holds_is}
use Rattle.mp_match.proofs.queues.Queues.holds.Goals as goal

pub returns : goal.returns
returns c =
    c.is_held.ensures
    ∙ holds_is c.self.inside.owners.items (kept c.self.inside.table.map) c.self.inside.history.board
    c.self.invariant.0 c.args.post c.if-post-eq0.false
    ∙ ap (λ (b : Board). holds b c.args.post) c.self.view_is
