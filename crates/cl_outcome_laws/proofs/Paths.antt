-- Turns that lead to an end, and who follows them.
use Rattle.std.proofs.Common.{ℕ, ◌⊎◌, inl, inr, List, [], ◌∷◌, ◌++◌, refl, sym, subst}
use Rattle.mp_alike_laws.specs.Renaming.{Renaming, turned}
use Rattle.cl_state.specs.Rank.{Rank}
use Rattle.cl_order_laws.specs.Alike.{AlikeRanks}
use Rattle.cl_order_laws.specs.Closed.{IsDone, IsSamePlace, Node, Plans}
use Rattle.cl_order_laws.specs.Sure.{GoesOn}
use Rattle.cl_order_laws.proofs.Ahead.{done_back}
use Rattle.cl_order_laws.proofs.Deadlocks.{ends_law}
use Rattle.cl_order_laws.proofs.Likeness.{clusters_back}
use Rattle.cl_order_laws.proofs.Walks.{Covers, follow}
use Rattle.cl_outcome_laws.specs.Graphs.{AreAlikeNodes}
use Rattle.cl_outcome_laws.specs.Unending.{IsAfter, MayEnd}

module _ (plans : Plans) where
  -- ---- turns behind turns

  both_walks : (rs ss : List ℕ) (a b c : Node) → GoesOn plans rs a b → GoesOn plans ss b c → GoesOn plans (rs ++ ss) a c
  both_walks [] ss a b c one two = subst (λ n. GoesOn plans ss n c) one two
  both_walks (r ∷ rs) ss a b c one two = (one.0, one.1, both_walks rs ss one.0 b c one.2 two)

  pub after_after : (a b c : Node) → IsAfter plans a b → IsAfter plans b c → IsAfter plans a c
  after_after a b c one two = (one.0 ++ two.0, both_walks one.0 two.0 a b c one.1 two.1)

  pub may_after : (a b : Node) → IsAfter plans a b → MayEnd plans b → MayEnd plans a
  may_after a b after may = (may.0, after_after a b may.0 after may.1, may.2)

  -- ---- who follows

  -- where turns lead to an end, turns of a node that covers do
  pub may_follow : (node here : Node) → Covers plans node here → MayEnd plans here → MayEnd plans node
  may_follow node here covers may =
      let f = follow plans (may.1).0 node here may.0 covers (may.1).1 may.2 in
      (f.last, (f.ranks, f.walk), ends_law.ends plans may.0.cluster f.last.cluster f.alike may.2)

  -- alike nodes cover one another
  place_back : (names : Renaming) (r : ℕ) (one other : Rank) (n m : ℕ) → AlikeRanks (turned names) other one
      → IsSamePlace (plans r) n m ⊎ IsDone (plans r) one → IsSamePlace (plans r) m n ⊎ IsDone (plans r) other
  place_back names r one other n m alike (inl same) = inl (λ k. sym (same k))
  place_back names r one other n m alike (inr done) = inr (done_back (turned names) other one alike (plans r) done)

  pub mirror : (one other : Node) → AreAlikeNodes plans one other → Covers plans one other
  mirror one other nodes =
      let back = clusters_back nodes.names one.cluster other.cluster nodes.alike in
      record {
        index = 0;
        node = one;
        there = refl;
        names = turned nodes.names;
        many = (back.ranks).many;
        ranks = λ r rank here.
            let v = (back.ranks).each r rank here in (
              v.0,
              v.1,
              record {
                turns = 0;
                then = rank;
                after = other.had r;
                ahead = (refl, refl);
                alike = v.2;
                place = place_back nodes.names r v.0 rank (one.had r) (other.had r) v.2 (nodes.places r v.0 v.1);
              },
            );
        hubs = back.hubs;
        boxes = back.boxes;
      }
