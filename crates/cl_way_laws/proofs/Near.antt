-- Clusters that are the same but for who is awake, for clocks, and for how many posts were compared.
use Rattle.std.proofs.Common.{◌≡◌, ◌∙◌, ℕ, refl, sym, ap, subst, true, List, Some}
use Rattle.std.specs.Prelude.{map}
use Rattle.std.specs.List.{slice_get, slice_set}
use Rattle.mp_types.specs.declared.replies.Reply.TheVariants as reply
use Rattle.mp_types.specs.declared.requests.Request.{Request}
use Rattle.mp_alike_laws.specs.Renaming.{no_renaming}
use Rattle.mp_source_laws.specs.Alike.{Wild}
use Rattle.mp_way_laws.specs.Way.{all_arrived}
use Rattle.mp_way_laws.specs.Answers.{IsSameHub}
use Rattle.cl_state.specs.declared.asking.Answer.{Answer}
use Rattle.cl_state.specs.declared.asking.Answer.TheVariants as answer
use Rattle.cl_state.specs.declared.asking.Ask.{Ask}
use Rattle.cl_state.specs.Asked.{asked, doing, part_of}
use Rattle.cl_state.specs.Rank.{Rank}
use Rattle.cl_state.specs.Told.{told}
use Rattle.cl_state_laws.specs.Awake.{awake}
use Rattle.cl_state_laws.specs.Vain.{waits_on}
use Rattle.cl_state_laws.proofs.Wakes.{wake_law}
use Rattle.cl_machine.specs.Cluster.{Cluster}
use Rattle.cl_order_laws.specs.Alike.{AlikeBoxes, AlikeRanks, AreEach, hub_of}
use Rattle.cl_order_laws.proofs.Each.{each_set}
use Rattle.cl_order_laws.proofs.Likeness.{AreSound, rank_itself}
use Rattle.cl_order_laws.proofs.Ranks.{told_stamped}
use Rattle.cl_reduction_laws.specs.Below.{AreAlike}
use Rattle.cl_reduction_laws.specs.Clusters.{IsGood, NamesRightly, Search, awake_cluster}
use Rattle.cl_reduction_laws.proofs.Awake.{map_set}
use Rattle.cl_reduction_laws.proofs.Clusters.{set_kept}
use Rattle.cl_reduction_laws.proofs.Machine.{each_itself}
use Rattle.cl_way_laws.specs.Clusters.{IsArrived, WayCluster}
use Rattle.cl_way_laws.specs.Met.{met}
use Rattle.cl_way_laws.proofs.SameHubs.{same_hub_alike, same_hub_back, same_hub_on}

-- the ranks are the same but for who is awake and for clocks
abbrev pub AreNear : List Rank → List Rank → Type 0
AreNear xs ys = AreEach (AlikeRanks no_renaming) (map awake xs) (map awake ys)

pub near_itself : (xs : List Rank) → AreNear xs xs
near_itself xs = each_itself (map awake xs)

-- one of them was told something
near_set : (xs : List Rank) (r : ℕ) (u v : Rank) → AlikeRanks no_renaming (awake u) (awake v)
    → AreNear (slice_set xs r u) (slice_set xs r v)
near_set xs r u v alike =
    subst (λ zs. AreEach (AlikeRanks no_renaming) zs (map awake (slice_set xs r v))) (sym (map_set awake xs r u))
    (subst (λ zs. AreEach (AlikeRanks no_renaming) (slice_set (map awake xs) r (awake u)) zs)
    (sym (map_set awake xs r v))
    (each_set (AlikeRanks no_renaming) (map awake xs) (map awake xs) r (awake u) (awake v) (near_itself xs) alike))

-- one of them is the same but for that
pub near_at : (xs : List Rank) (r : ℕ) (x y : Rank) → slice_get xs r ≡ Some x → AlikeRanks no_renaming (awake x) (awake y)
    → AreNear xs (slice_set xs r y)
near_at xs r x y here alike =
    subst (λ ys. AreNear ys (slice_set xs r y)) (set_kept xs r x here) (near_set xs r x y alike)

-- the same at another stamp
pub told_near : (xs : List Rank) (r hart : ℕ) (x : Rank) (a : Answer) (stamp other : ℕ)
    → AreNear (slice_set xs r (told x hart a stamp)) (slice_set xs r (told x hart a other))
told_near xs r hart x a stamp other =
    near_set xs r (told x hart a stamp) (told x hart a other)
    (subst (λ z. AlikeRanks no_renaming (awake (told x hart a stamp)) z)
    (sym (ap awake (told_stamped x hart a stamp other)))
    (rank_itself (awake (told x hart a stamp)) other))

-- that nothing is there, where it waits on
pub vain_near : (xs : List Rank) (r hart : ℕ) (x : Rank) (q : Request) (stamp : ℕ) → slice_get xs r ≡ Some x
    → waits_on (doing x.site (part_of x hart)) ≡ true → asked x hart ≡ Ask.Hub q
    → AreNear xs (slice_set xs r (told x hart (answer.Reply reply.NotYet) stamp))
vain_near xs r hart x q stamp here on asks =
    near_at xs r x (told x hart (answer.Reply reply.NotYet) stamp) here
    (subst (λ z. AlikeRanks no_renaming (awake x) z) (sym ((wake_law.vain) x hart stamp q on asks))
    (rank_itself (awake x) stamp))

-- ---- clusters

pub record IsNear (c k : Cluster) : Type 0 where
  pub ranks : AreNear c.ranks k.ranks
  pub hub : IsSameHub (hub_of c.journal) (hub_of k.journal)
  pub boxes : k.boxes ≡ c.boxes

pub near_alike : (wild : Wild) (c k : Cluster) → AreSound c.boxes → IsNear c k
    → AreAlike wild (awake_cluster c) (awake_cluster k)
near_alike wild c k sound near = (
  no_renaming,
  record {
    ranks = near.ranks;
    hubs = same_hub_alike wild (hub_of c.journal) (hub_of k.journal) near.hub;
    boxes = subst (λ bs. AreEach AlikeBoxes c.boxes bs) (sym near.boxes)
        (record { many = refl; each = λ i box here. (box, here, sound i box here) });
  },
)

-- ---- clusters in which all has arrived

-- where the ranks, the boxes and what will have arrived are the same on the way, they are
pub arrived_near : (v w : WayCluster) (c d : Cluster) → IsArrived v c → IsArrived w d
    → map (met (all_arrived v.way).board.lines) v.ranks ≡ map (met (all_arrived w.way).board.lines) w.ranks
    → w.boxes ≡ v.boxes
    → IsSameHub (all_arrived v.way) (all_arrived w.way)
    → IsNear c d
arrived_near v w c d one two ranks boxes hub = record {
  ranks = subst (AreNear c.ranks) (one.ranks ∙ ranks ∙ sym two.ranks) (near_itself c.ranks);
  hub = same_hub_on (hub_of c.journal) (all_arrived v.way) (hub_of d.journal) one.hub
      (same_hub_on (all_arrived v.way) (all_arrived w.way) (hub_of d.journal) hub
      (same_hub_back (hub_of d.journal) (all_arrived w.way) two.hub));
  boxes = two.boxes ∙ boxes ∙ sym one.boxes;
}

-- what holds of one such cluster holds of any
pub good_too : (search : Search) (w : WayCluster) (c d : Cluster) → IsArrived w c → IsArrived w d → IsGood search c
    → IsGood search d
good_too search w c d one two good = record {
  waits = λ place a here. good.waits place a (ap (λ ls. slice_get ls place) same.lines ∙ here);
  names = λ r rank there.
      subst (λ ls. NamesRightly ls rank) same.lines (good.names r rank (ap (λ xs. slice_get xs r) ranks ∙ there));
  boxes = λ i box there. good.boxes i box (ap (λ bs. slice_get bs i) (one.boxes ∙ sym two.boxes) ∙ there);
  stands = λ r rank there. good.stands r rank (ap (λ xs. slice_get xs r) ranks ∙ there);
}
  where
    ranks : c.ranks ≡ d.ranks
    ranks = one.ranks ∙ sym two.ranks

    same : IsSameHub (hub_of c.journal) (hub_of d.journal)
    same = same_hub_on (hub_of c.journal) (all_arrived w.way) (hub_of d.journal) one.hub
        (same_hub_back (hub_of d.journal) (all_arrived w.way) two.hub)
