-- A WAIT on the way for a synchronous send that is complete once all has arrived.
use Rattle.std.proofs.Common.{◌≡◌, ◌∙◌, ℕ, ◌+◌, ◌<◌, ◌⊎◌, inl, inr, refl, sym, ap, subst, Bool, length, Some}
use Rattle.std.specs.Prelude.{map}
use Rattle.std.specs.List.{slice_get, slice_set}
use Rattle.rv_image_types.specs.declared.images.ImageParts.{ImageParts}
use Rattle.mp_types.specs.declared.replies.Reply.{Reply}
use Rattle.mp_types.specs.declared.replies.Reply.TheVariants as reply
use Rattle.mp_types.specs.declared.requests.Request.{Request}
use Rattle.mp_types.specs.declared.requests.Request.TheVariants as request
use Rattle.mp_alike_laws.specs.Renaming.{no_renaming}
use Rattle.mp_way_laws.specs.Way.{WayView, all_arrived}
use Rattle.mp_way_laws.specs.Answers.{IsSameHub, behind, reply_on_way}
use Rattle.cl_state.specs.declared.asking.Answer.{Answer}
use Rattle.cl_state.specs.declared.asking.Answer.TheVariants as answer
use Rattle.cl_state.specs.declared.asking.Ask.{Ask}
use Rattle.cl_state.specs.Asked.{asked, doing, part_of}
use Rattle.cl_state.specs.Rank.{Rank}
use Rattle.cl_state.specs.Told.{told}
use Rattle.cl_state_laws.specs.Awake.{StandsAtCall, awake}
use Rattle.cl_state_laws.proofs.Wakes.{wake_law}
use Rattle.cl_trace.specs.declared.events.Kind.{Kind}
use Rattle.cl_machine.specs.declared.steps.Step.{Step}
use Rattle.cl_machine.specs.Cluster.{Cluster, only_told}
use Rattle.cl_order_laws.specs.Alike.{AlikeRanks, hub_of}
use Rattle.cl_order_laws.proofs.Likeness.{rank_itself}
use Rattle.cl_order_laws.proofs.SureAlone.{IsLive, has_hart}
use Rattle.cl_reduction_laws.specs.Below.{Turn}
use Rattle.cl_reduction_laws.specs.Clusters.{IsWithin, Search, State, cluster_machine}
use Rattle.cl_reduction_laws.proofs.Good.{good_after}
use Rattle.cl_delay_laws.specs.Networks.{IsTurn, in_vain, same}
use Rattle.cl_contest_laws.proofs.Good.{good_alike}
use Rattle.cl_way_laws.specs.Clusters.{IsArrived, WayCluster, called_on_way}
use Rattle.cl_way_laws.specs.Met.{is_met, met, met_by}
use Rattle.cl_way_laws.proofs.MetCalls.{alike_of}
use Rattle.cl_way_laws.proofs.MetNeeds.{WaitsForMet, wait_asks, wait_asks_none, wait_on, wait_told}
use Rattle.cl_way_laws.proofs.MetRanks.{number_is, number_told, ranks_told, there_met}
use Rattle.cl_way_laws.proofs.Near.{AreNear, IsNear, near_alike, near_at, told_near}
use Rattle.cl_way_laws.proofs.Posting.{lines_now, met_asked}
use Rattle.cl_way_laws.proofs.SameHubs.{same_hub_back, same_hub_is, same_hub_on}
use Rattle.cl_way_laws.proofs.States.{Behind, WayState, each_in}

module _ (search : Search) (image : ImageParts) (a : WayState search image) (r : ℕ) (x : Rank) (q : Request) (stamp : ℕ)
    (there : slice_get a.now.ranks r ≡ Some x) (asks : asked x (search.harts r) ≡ Ask.Hub q)
    (within : IsWithin search a.state.cluster r)
    (waits_so : WaitsForMet (is_met (lines_now a.now.way) x.site.number) x.requests
    (doing x.site (part_of x (search.harts r)))) where
  abbrev hart : ℕ
  hart = search.harts r

  abbrev c : Cluster
  c = a.state.cluster

  abbrev w : WayView
  w = a.now.way

  abbrev d : ℕ → Bool
  d = is_met (lines_now w) x.site.number

  abbrev n : ℕ
  n = waits_so.n

  abbrev new : WayCluster
  new = called_on_way a.now r hart x q stamp

  abbrev y : Rank
  y = met (lines_now w) x

  here : slice_get c.ranks r ≡ Some y
  here = there_met search image a r x there

  -- it asks whether its send is complete
  pub q_is : q ≡ request.Finished n
  q_is = same_request q (request.Finished n) (sym asks ∙ wait_asks d x hart waits_so)
    where
      same_request : (p q : Request) → Ask.Hub p ≡ Ask.Hub q → p ≡ q
      same_request p q e = cc

  answers : ((reply_on_way w r (request.Finished n) ≡ reply.Done)
      ⊎ (reply_on_way w r (request.Finished n) ≡ reply.NotYet))
      × (behind w r (request.Finished n) ≡ w)
  answers =
      met_asked w r n
      (ap (λ k. is_met (lines_now w) k n) (sym (number_is search image a r x there)) ∙ (waits_so.names).met)

  still : behind w r q ≡ w
  still = ap (behind w r) q_is ∙ answers.1

  -- where it was told this
  left_ranks : (v : Reply) → reply_on_way w r (request.Finished n) ≡ v
      → map (met (lines_now (behind w r q))) new.ranks
      ≡ slice_set c.ranks r (met (lines_now w) (told x hart (answer.Reply v) stamp))
  left_ranks v is =
      ap (λ k. map (met (lines_now k)) new.ranks) still
      ∙ ap (λ z. map (met (lines_now w)) (slice_set a.now.ranks r (told x hart (answer.Reply z) stamp)))
      (ap (reply_on_way w r) q_is ∙ is)
      ∙ ranks_told search image a r x there (told x hart (answer.Reply v) stamp)

  hubs_are : (b : Cluster) → IsArrived new b → IsSameHub (hub_of c.journal) (hub_of b.journal)
  hubs_are b two =
      same_hub_on (hub_of c.journal) (all_arrived w) (hub_of b.journal) a.arrived.hub
      (same_hub_on (all_arrived w) (all_arrived (behind w r q)) (hub_of b.journal)
      (same_hub_is (all_arrived w) (all_arrived (behind w r q)) (ap all_arrived still))
      (same_hub_back (hub_of b.journal) (all_arrived (behind w r q)) two.hub))

  number_then : (v : Answer) → met (lines_now w) (told x hart v stamp) ≡ met_by d (told x hart v stamp)
  number_then v = ap (λ k. met_by (is_met (lines_now w) k) (told x hart v stamp)) (number_told x hart v stamp)

  stands_x : StandsAtCall x hart
  stands_x = (a.state.good).stands r y here

  stands_left : (v : Reply) (s : ℕ) (z : Rank)
      → slice_get (slice_set c.ranks r (met (lines_now w) (told x hart (answer.Reply v) stamp))) s ≡ Some z
      → StandsAtCall z (search.harts s)
  stands_left v =
      each_in (λ s z. StandsAtCall z (search.harts s)) c.ranks r (met (lines_now w) (told x hart (answer.Reply v) stamp))
      ((wake_law.stands) x hart stamp (answer.Reply v) stands_x tt)
      (λ s z at. (a.state.good).stands s z at)

  -- the cluster behind it
  abbrev left : Reply → Cluster
  left v = record {
    ranks = slice_set c.ranks r (met (lines_now w) (told x hart (answer.Reply v) stamp));
    journal = c.journal;
    boxes = c.boxes;
  }

  left_arrived : (v : Reply) → reply_on_way w r (request.Finished n) ≡ v → IsArrived new (left v)
  left_arrived v is = record {
    ranks = sym (left_ranks v is);
    boxes = a.arrived.boxes;
    hub = subst (λ k. IsSameHub (hub_of c.journal) (all_arrived k)) (sym still) a.arrived.hub;
  }

  behind_near : (k : State search) (v : Reply) → reply_on_way w r (request.Finished n) ≡ v
      → IsNear k.cluster (left v) → Behind search new
  behind_near k v is near = record {
    cluster = left v;
    arrived = left_arrived v is;
    good = good_alike search k.cluster (left v) (near_alike search.wild k.cluster (left v) (k.good).boxes near) k.good
        (stands_left v);
  }

  -- ---- its message is on its way

  awake_same : AlikeRanks no_renaming (awake y) (awake (met (lines_now w) (told x hart (answer.Reply reply.NotYet) stamp)))
  awake_same =
      subst (λ z. AlikeRanks no_renaming (awake y) z)
      (sym (ap awake (number_then (answer.Reply reply.NotYet))
      ∙ ap (met_by d) ((wake_law.vain) x hart stamp q (wait_on d x hart waits_so) asks)))
      (rank_itself (awake y) stamp)

  vain_ranks : AreNear c.ranks (left reply.NotYet).ranks
  vain_ranks =
      near_at c.ranks r y (met (lines_now w) (told x hart (answer.Reply reply.NotYet) stamp)) here awake_same

  vain_near : (b : Cluster) → reply_on_way w r (request.Finished n) ≡ reply.NotYet → IsArrived new b → IsNear c b
  vain_near b is two = record {
    ranks = subst (AreNear c.ranks) (sym (two.ranks ∙ left_ranks reply.NotYet is)) vain_ranks;
    hub = hubs_are b two;
    boxes = two.boxes ∙ sym a.arrived.boxes;
  }

  -- ---- it has arrived: once all has, the rank asks nobody

  abbrev step : Step
  step = record { rank = r; hart = hart; stamp = y.clock + 1; kind = Kind.Local }

  abbrev then : Cluster
  then = only_told c step y answer.Alone

  inside : hart < length x.harts
  inside = has_hart x hart (subst IsLive (sym asks) tt)

  alone : Turn r hart c then
  alone = record {
    step = step;
    rank = refl;
    hart = refl;
    leads = (y, here, inside, (wait_asks_none d x hart waits_so, refl, refl));
  }

  abbrev after : State search
  after = record { cluster = then; good = good_after search r c then y here a.state.good within alone }

  done_ranks : AreNear then.ranks (left reply.Done).ranks
  done_ranks =
      subst (λ z. AreNear then.ranks (slice_set c.ranks r z))
      (wait_told d x hart waits_so stamp ∙ sym (number_then (answer.Reply reply.Done)))
      (told_near c.ranks r hart y answer.Alone (y.clock + 1) stamp)

  done_near : (b : Cluster) → reply_on_way w r (request.Finished n) ≡ reply.Done → IsArrived new b → IsNear then b
  done_near b is two = record {
    ranks = subst (AreNear then.ranks) (sym (two.ranks ∙ left_ranks reply.Done is)) done_ranks;
    hub = hubs_are b two;
    boxes = two.boxes ∙ sym a.arrived.boxes;
  }

  -- ---- in either case

  pub wait_goes : (b : State search) → IsArrived new b.cluster → IsTurn (cluster_machine search) r a.state b
  wait_goes b two = elim answers.0 [
    | inl done ↦ same after alone (alike_of search after b (done_near b.cluster done two))
    | inr none ↦ in_vain (alike_of search a.state b (vain_near b.cluster none two))
  ]

  pub wait_behind : Behind search new
  wait_behind = elim answers.0 [
    | inl done ↦ behind_near after reply.Done done (done_near (left reply.Done) done (left_arrived reply.Done done))
    | inr none ↦
        behind_near a.state reply.NotYet none
        (vain_near (left reply.NotYet) none (left_arrived reply.NotYet none))
  ]
