use Rattle.std.proofs.Common.{◌∙◌, sym, ap}
use Rattle.mp_hub.specs.Claimed.{is_only_claimed, waits_for_receive}
use Rattle.mp_hub.specs.Hub.{HubView}
use Rattle.mp_hub.proofs.Held.{only_claimed_is}
use Rattle.mp_hub.proofs.state.HubState.is_only_claimed.Goals as goal

pub returns-in-None : goal.returns-in-None
returns-in-None c =
    let h : HubView = record {
      links = c.self.inside.links.items;
      board = c.self.inside.queues;
      claims = c.self.inside.claims;
      sides = c.self.inside.sides.items;
    } in
    ap (waits_for_receive h) (sym c.in-None.is ∙ c.claim_of.ensures) ∙ only_claimed_is h c.args.post c.self.invariant.1
    ∙ ap (λ (k : HubView). is_only_claimed k c.args.post) c.self.view_is

pub returns-in-Some : goal.returns-in-Some
returns-in-Some c =
    let h : HubView = record {
      links = c.self.inside.links.items;
      board = c.self.inside.queues;
      claims = c.self.inside.claims;
      sides = c.self.inside.sides.items;
    } in
    c.is_waiting.ensures ∙ ap (waits_for_receive h) (sym c.in-Some.is ∙ c.claim_of.ensures)
    ∙ only_claimed_is h c.args.post c.self.invariant.1
    ∙ ap (λ (k : HubView). is_only_claimed k c.args.post) c.self.view_is
