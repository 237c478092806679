use Rattle.std.proofs.Common.{◌≡◌, ◌++◌, sym, ap, ◌∙◌, subst, map}
use Rattle.mp_hub.specs.Hub.{HubView, all_got, one_got}
use Rattle.mp_hub.specs.Twins.{Covers}
use Rattle.mp_hub.proofs.Copied.{covered}
use Rattle.mp_hub.proofs.Held.{held_by_gathering}
use Rattle.mp_hub.proofs.state.HubState.gather_with.Goals as goal

pub kept_copies-twins-requires : goal.kept_copies-twins-requires
kept_copies-twins-requires c =
    let rank = c.args.rank in
    let ns = c.args.posts.now in
    let board = c.self.inside.queues in
    let gots : c.as_slice.result.now ≡ (all_got rank board ns).0 =
    c.as_slice.ensures.value ∙ c.gather.ensures.gots
    ∙ ap (λ gs. gs ++ (all_got rank board ns).0) c.in-Ok.ensures.items in
    let copies : c.in_ok-copies.copies.items ≡ map (λ n. (one_got rank board n).0) ns =
    c.in_ok-copies.ensures.copies
    ∙ sym (ap (λ (h : HubView). map (λ n. (one_got rank h.board n).0) ns) c.self.view_is) in
    subst (λ gs. Covers gs c.in_ok-copies.copies.items) (sym gots)
    (subst (λ cs. Covers (all_got rank board ns).0 cs) (sym copies) (covered rank board ns))

pub invariant_of-self : goal.invariant_of-self
invariant_of-self c = (
  c.self.invariant.0,
  held_by_gathering _ _ c.args.rank c.args.posts.now _ c.self.view_is c.requires.known c.gather.ensures.after
      c.self.invariant.1,
)
