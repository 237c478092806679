-- Turns by the plans, as turns of the machine.
use Rattle.std.proofs.Common.{◌≡◌, ◌∙◌, ℕ, refl, sym, ap, subst, List, [], ◌∷◌, ◌++◌}
use Rattle.cl_machine.specs.Cluster.{Cluster}
use Rattle.cl_order_laws.specs.Closed.{Node, Plans, Turns, one_more}
use Rattle.cl_order_laws.specs.Sure.{Goes, GoesOn as GoesOnBy}
use Rattle.cl_order_laws.proofs.Covered.{node_of}
use Rattle.cl_reduction_laws.specs.Below.{Turn}
use Rattle.cl_schedule_laws.specs.Machines.{AllWithin as AllInside, GoesOn}
use Rattle.cl_schedule_laws.specs.Laws.{IsFound, IsLasting}
use Rattle.cl_schedule_laws.proofs.Walks.{snoc}
use Rattle.cl_reduction_laws.specs.Clusters.{Search, State, cluster_machine}
use Rattle.cl_reduction_laws.specs.Settled.{Settles}
use Rattle.cl_reduction_laws.proofs.Clusters.{cluster_machine_law}
use Rattle.cl_reduction_laws.proofs.Good.{good_after}
use Rattle.cl_reduction_laws.proofs.Machine.{taken}
use Rattle.cl_contest_laws.proofs.Kept.{AreClosed, Anything, anything_lasts, found, kept}

-- the plans name the hart of each rank that takes turns
abbrev pub IsPlanned : Search → Plans → Type 0
IsPlanned search plans = (r n : ℕ) → plans r n ≡ search.harts r

module _ (search : Search) (plans : Plans) (planned : IsPlanned search plans) where
  abbrev pub Walk : List ℕ → State search → State search → Type 0
  Walk rs a b = GoesOn (cluster_machine search) rs a b

  turn_by_plans : (r : ℕ) (old new : Node) → Goes plans r old new → Turn r (search.harts r) old.cluster new.cluster
  turn_by_plans r old new goes = record {
    step = goes.step;
    rank = goes.rank;
    hart = goes.hart ∙ planned r (old.had r);
    leads = goes.leads;
  }

  goes_by_plans : (r : ℕ) (old new : Cluster) (had : Turns) → Turn r (search.harts r) old new
      → Goes plans r (node_of old had) (node_of new (one_more had r))
  goes_by_plans r old new had turn = record {
    step = turn.step;
    rank = turn.rank;
    hart = turn.hart ∙ sym (planned r (had r));
    leads = turn.leads;
    had = refl;
  }

  -- turns of the machine are turns by the plans
  pub by_plans : (rs : List ℕ) (a b : State search) (had : Turns) → Walk rs a b
      → (last : Node) × GoesOnBy plans rs (node_of a.cluster had) last × (last.cluster ≡ b.cluster)
  by_plans [] a b had walk = (node_of a.cluster had, refl, ap (λ (s : State search). s.cluster) (sym walk))
  by_plans (r ∷ rs) a b had walk =
      let mid = (walk.0).cluster in
      let g = by_plans rs walk.0 b (one_more had r) walk.2 in
      (g.0, (node_of mid (one_more had r), goes_by_plans r a.cluster mid had walk.1, g.1), g.2)

  -- turns behind turns
  pub walks_on : (rs ss : List ℕ) (a b c : State search) → Walk rs a b → Walk ss b c → Walk (rs ++ ss) a c
  walks_on [] ss a b c one two = subst (λ (s : State search). Walk ss s c) one two
  walks_on (r ∷ rs) ss a b c one two = (one.0, one.1, walks_on rs ss one.0 b c one.2 two)

  -- turns within the patterns that lead to this cluster
  pub record Walked (rs : List ℕ) (a : State search) (end : Cluster) : Type 0 where
    pub last : State search
    pub is : last.cluster ≡ end
    pub walk : Walk rs a last
    pub inside : AllInside (cluster_machine search) rs a last walk

  module _ (Is : Cluster → Type 0) (nodes : AreClosed search Is) (n : ℕ) (start : State search)
      (settles : Settles search Is n start.cluster) where
    pub walked_from : (rs ps : List ℕ) (at : State search) → Walk ps start at → (here there : Node) → at.cluster ≡ here.cluster
        → GoesOnBy plans rs here there
        → Walked rs at there.cluster
    walked_from [] ps at done here there same walk = record {
      last = at;
      is = same ∙ ap (λ (k : Node). k.cluster) (sym walk);
      walk = refl;
      inside = tt;
    }
    walked_from (r ∷ rs) ps at done here there same walk =
        let mid = (walk.0).cluster in
        let turn = subst (λ c. Turn r (search.harts r) c mid) (sym same) (turn_by_plans r here walk.0 walk.1) in
        let f = found search Is nodes (Anything search) (anything_lasts search) n start at ps settles done in
        let t = taken r (search.harts r) at.cluster mid turn in
        let on : State search =
        record { cluster = mid; good = good_after search r at.cluster mid t.rank t.there at.good (f.within r) turn } in
        let more = (snoc (cluster_machine search) (cluster_machine_law search) ps r start at on done turn).walk in
        let w = walked_from rs (ps ++ r ∷ []) on more walk.0 there refl walk.2 in
        record { last = w.last; is = w.is; walk = (on, turn, w.walk); inside = (f.within r, w.inside) }

    pub walked : (rs : List ℕ) (here there : Node) → start.cluster ≡ here.cluster → GoesOnBy plans rs here there
        → Walked rs start there.cluster
    walked rs here there same walk = walked_from rs [] start refl here there same walk

    -- from there turns within the patterns lead on to a node, of which what lasts holds if it holds there
    pub arrives : (P : State search → Type 0) → IsLasting (cluster_machine search) P → (rs : List ℕ) (end : Cluster)
        → (w : Walked rs start end)
        → IsFound (cluster_machine search) (kept search Is) P w.last
    arrives P lasts rs end w = found search Is nodes P lasts n start w.last rs settles w.walk

    pub arrives_node : (rs : List ℕ) (end : Cluster) → (w : Walked rs start end)
        → IsFound (cluster_machine search) (kept search Is) (Anything search) w.last
    arrives_node = arrives (Anything search) (anything_lasts search)
