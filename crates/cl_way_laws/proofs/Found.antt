-- What is found from a state is found from what is alike, and from where polls lead there.
use Rattle.std.proofs.Common.{ℕ, refl, subst, List, [], ◌∷◌}
use Rattle.cl_schedule_laws.specs.Machines.{IsMachine, Machine}
use Rattle.cl_schedule_laws.specs.Laws.{IsFound, Kept}
use Rattle.cl_schedule_laws.proofs.Walks.{along}
use Rattle.cl_delay_laws.specs.Networks.{ArePollsSure, Network}
use Rattle.cl_delay_laws.specs.Laws.{IsMatched, Lasts, PollsOn, StaysWithin}
use Rattle.cl_delay_laws.proofs.Polls.{within_before}

module _ (m : Machine) (is : IsMachine m) (kept : Kept m) (P : m.State → Type 0) (lasts : Lasts m P) where
  pub found_along : (a b : m.State) → m.Alike a b → IsFound m kept P b → IsFound m kept P a
  found_along a b alike f =
      let back = is.back a b alike in
      let w = along m is f.more b a f.there back f.walk f.inside in
      record {
        within = λ r. is.within r b a back (f.within r);
        room = is.room b a back f.room;
        more = f.more;
        there = w.last;
        walk = w.walk;
        inside = w.inside;
        node = f.node;
        is = f.is;
        alike = is.on w.last f.there f.node (is.back f.there w.last w.alike) f.alike;
        keeps = λ p. f.keeps (lasts.alike a b alike p);
      }

  module _ (sure : ArePollsSure m) where
    pub found_polls : (rs : List ℕ) (a b : m.State) → PollsOn m rs a b → IsFound m kept P b → IsFound m kept P a
    found_polls [] a b polls f = subst (IsFound m kept P) polls f
    found_polls (r ∷ rs) a b polls f =
        let g = found_polls rs polls.1 b polls.3 f in
        record {
          within = within_before m is sure (r ∷ []) a polls.1 (polls.0, polls.1, polls.2, refl) g.within;
          room = is.grows r a polls.1 polls.2 g.room;
          more = r ∷ g.more;
          there = g.there;
          walk = (polls.1, polls.2, g.walk);
          inside = (is.asks_for r a polls.0, g.inside);
          node = g.node;
          is = g.is;
          alike = g.alike;
          keeps = λ p. g.keeps (lasts.ready r a polls.1 polls.0 polls.2 p);
        }

    -- what is found from where a network's run is matched is found from where all has arrived
    pub found_matched : (n : Network m) (Q : m.State → Type 0) (start : m.State) (here : n.State)
        → (k : IsMatched m n Q start here)
        → IsFound m kept P k.end
        → IsFound m kept P (n.arrived here)
    found_matched n Q start here k f =
        found_polls k.polls (n.arrived here) k.there k.polled (found_along k.there k.end k.alike f)

-- there each rank asks within the patterns, and there is room
pub within_matched : (m : Machine) → IsMachine m → ArePollsSure m
    → (n : Network m) (P : m.State → Type 0) (start : m.State)
    (here : n.State)
    → StaysWithin m start → IsMatched m n P start here → (r : ℕ) → m.IsWithin (n.arrived here) r
within_matched m is sure n P start here stays k =
    within_before m is sure k.polls (n.arrived here) k.there k.polled
    (λ r. is.within r k.end k.there (is.back k.there k.end k.alike) ((stays k.ranks k.end k.walk).0 r))
