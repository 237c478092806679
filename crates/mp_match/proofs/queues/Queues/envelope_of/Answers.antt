use Rattle.std.proofs.Common.{Some, ap, sym, ◌∙◌}
use Rattle.mp_match.specs.Board.{Board, envelope_at}
use Rattle.mp_match.specs.Pairs.{partner_for}
use Rattle.mp_match.specs.Live.{kept}
use Rattle.mp_match.proofs.Asked.{envelope_waits}
use Rattle.mp_match.proofs.queues.Queues.envelope_of.Goals as goal

pub returns-in-Some : goal.returns-in-Some
returns-in-Some c =
    let b = c.self.inside.history.board in
    c.envelope.ensures
    ∙ envelope_waits c.self.inside.owners.items (kept c.self.inside.table.map) b c.self.invariant.0 c.args._new
    c.in-Some.place
    (ap (λ (x : Board). partner_for x.lines c.args._new) c.self.view_is ∙ sym c.requires ∙ c.in-Some.is)
    ∙ ap (λ (x : Board). envelope_at x (Some c.in-Some.place)) c.self.view_is
    ∙ ap (envelope_at c.args.self.now) (sym c.in-Some.is)
