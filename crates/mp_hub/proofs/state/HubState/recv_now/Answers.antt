use Rattle.std.proofs.Common.{◌≡◌, ◌+◌, sym, ◌∙◌, subst}
use Rattle.mp_match.specs.Board.{Board, collect, receive_posted}
use Rattle.mp_probe.specs.Claims.{next_number}
use Rattle.mp_hub.specs.Held.{AreHeld}
use Rattle.mp_hub.proofs.Held.{held_received}
use Rattle.mp_hub.proofs.state.HubState.recv_now.Goals as goal

pub invariant_of-self-in-Some : goal.invariant_of-self-in-Some
invariant_of-self-in-Some c =
    let i = c.self.invariant in
    let b = c.self.inside.queues in
    let after : c.collect.new.self ≡ (collect (receive_posted b c.args.selection) (next_number b)).1 =
    c.collect.ensures.after ∙ (λ j. (collect (c.in-Ok.ensures.ok j) (c.posts-post.ensures j + 1)).1) in (
      i.0,
      subst (λ (x : Board). AreHeld x c.self.inside.claims) (sym after)
          (held_received b c.self.inside.claims c.args.selection i.1),
    )

pub invariant_of-self-2 : goal.invariant_of-self-2
invariant_of-self-2 c =
    let i = c.self.invariant in
    let b = c.self.inside.queues in
    let after : c.collect.new.self ≡ (collect (receive_posted b c.args.selection) (next_number b)).1 =
    c.collect.ensures.after ∙ (λ j. (collect (c.in-Ok.ensures.ok j) (c.posts-post.ensures j + 1)).1) in (
      i.0,
      subst (λ (x : Board). AreHeld x c.self.inside.claims) (sym after)
          (held_received b c.self.inside.claims c.args.selection i.1),
    )
