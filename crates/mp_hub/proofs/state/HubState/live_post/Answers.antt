use Rattle.std.proofs.Common.{subst}
use Rattle.mp_match.specs.InnerLive.{IsPast}
use Rattle.mp_hub.specs.Held.{AreHeld}
use Rattle.mp_hub.specs.Hub.{HubView}
use Rattle.mp_hub.proofs.Live.{ready_to_all}
use Rattle.mp_hub.proofs.state.HubState.live_post.Goals as goal

pub returns-clause-none : goal.returns-clause-none
returns-clause-none c = λ none.
    ready_to_all c.args.self.now c.args.post
    (subst (λ (h : HubView). AreHeld h.board h.claims) c.self.view_is c.self.invariant.1)
    (subst (λ (h : HubView). IsPast h.board c.args.post) c.self.view_is (c.live_post.ensures.none none))
