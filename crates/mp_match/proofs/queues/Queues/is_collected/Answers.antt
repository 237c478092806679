use Rattle.std.proofs.Common.{not, ap, sym, ◌∙◌}
use Rattle.mp_match.specs.Board.{Board, is_gone, is_held}
use Rattle.std.specs.List.{slice_get}
use Rattle.mp_match.specs.Live.{kept}
use Rattle.mp_match.proofs.Asked.{held_is, not_collected, partner_line}
use Rattle.mp_match.specs.InnerLive.{awaits}
use Rattle.mp_match.proofs.queues.Queues.is_collected.Goals as goal

pub returns-in-Some-partner : goal.returns-in-Some-partner
returns-in-Some-partner c =
    ap not (c.is_held.ensures
    ∙ held_is c.self.inside.owners.items (kept c.self.inside.table.map) c.self.inside.history.board c.self.invariant.0
    c.in-Some-partner.place)
    ∙ ap (λ (b : Board). not (is_held (slice_get b.bodies c.in-Some-partner.place))) c.self.view_is
    ∙ ap (is_gone c.args.self.now)
    (sym (partner_line c.args.self.now c.args.post c.in-Some.line c.in-Some.ensures.some ∙ c.in-Some-partner.is))

pub returns-then-awaits : goal.returns-then-awaits
returns-then-awaits c =
    not_collected c.args.self.now c.args.post (sym (ap awaits c.owner.ensures) ∙ sym c.awaits.ensures ∙ c.if-awaits.true)
