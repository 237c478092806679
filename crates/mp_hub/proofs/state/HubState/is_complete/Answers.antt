use Rattle.std.proofs.Common.{◌||◌, sym, ap, ◌∙◌}
use Rattle.mp_match.specs.Claimed.{open_claim}
use Rattle.mp_hub.specs.Hub.{HubView, is_complete, was_received}
use Rattle.mp_hub.proofs.Held.{complete_is}
use Rattle.mp_hub.proofs.state.HubState.is_complete.Goals as goal

pub returns-then-finished : goal.returns-then-finished
returns-then-finished c =
    let h : HubView = record {
      links = c.self.inside.links.items;
      board = c.self.inside.queues;
      claims = c.self.inside.claims;
      sides = c.self.inside.sides.items;
    } in
    let finished = sym c.finished.ensures ∙ c.if-finished.true in
    c.if-finished.true ∙ sym (ap (λ x. x || was_received h (open_claim h.board c.args.post)) finished)
    ∙ complete_is h c.args.post c.self.invariant.1 ∙ ap (λ (k : HubView). is_complete k c.args.post) c.self.view_is
