use Rattle.std.proofs.Common.{◌+◌, false, sym, ◌∙◌, subst}
use Rattle.mp_match.specs.Board.{Board}
use Rattle.mp_types.specs.declared.replies.Reply.TheVariants as reply
use Rattle.mp_hub.specs.Hub.{message_or}
use Rattle.mp_hub.specs.Held.{AreHeld}
use Rattle.mp_hub.proofs.Held.{held_received}
use Rattle.mp_hub.proofs.state.HubState.recv_with.Goals as goal

pub returns-clause-ok : goal.returns-clause-ok
returns-clause-ok c =
    let number = c.posts-post.ensures in
    let got = c.message_or.ensures
    ∙ (λ i. message_or (reply.Posted (number i + 1) false) (c.in-Ok.ensures.message i)) in
    rw (← c.self.view_is) (
      got,
      λ i. record {
        links = c.self.inside.links.items;
        board = c.in-Ok.ensures.after i;
        claims =
            c.self.inside.claims;
        sides = c.self.inside.sides.items;
      },
    )

pub invariant_of-self-2 : goal.invariant_of-self-2
invariant_of-self-2 c = (
  c.self.invariant.0,
  subst (λ (b : Board). AreHeld b c.self.inside.claims) (sym c.in-Ok.ensures.after)
      (held_received c.self.inside.queues c.self.inside.claims c.args.selection c.self.invariant.1),
)
