-- Turns of harts that are stopped or wait in vain.
use Rattle.std.proofs.Common.{◌≡◌, ◌∙◌, ℕ, sym, ap, subst, ◌⊎◌, inl, inr, true, List, [], ◌∷◌, Some}
use Rattle.std.specs.Prelude.{map}
use Rattle.std.specs.List.{slice_get, slice_set}
use Rattle.mp_types.specs.declared.replies.Reply.TheVariants.{NotYet}
use Rattle.mp_types.specs.declared.requests.Request.{Request}
use Rattle.mp_types.specs.declared.requests.Request.TheVariants as request
use Rattle.mp_alike_laws.specs.Renaming.{no_renaming}
use Rattle.cl_state.specs.declared.asking.Answer.TheVariants as answer
use Rattle.cl_state.specs.declared.asking.Ask.{Ask}
use Rattle.cl_state.specs.Asked.{asked, doing, part_of}
use Rattle.cl_state.specs.Rank.{Rank}
use Rattle.cl_state.specs.Told.{told}
use Rattle.cl_state_laws.specs.Awake.{awake}
use Rattle.cl_state_laws.specs.Vain.{IsStopped, mode_of, waits_on}
use Rattle.cl_state_laws.specs.VainLaws.{at_clock}
use Rattle.cl_state_laws.proofs.Vain.{vain_law}
use Rattle.cl_machine.specs.Cluster.{Cluster}
use Rattle.cl_machine.specs.Journal.{reply_in}
use Rattle.cl_order_laws.specs.Alike.{AlikeRanks, AreEach, hub_of}
use Rattle.cl_order_laws.specs.Closed.{IsInVain, WaitsInVain}
use Rattle.cl_order_laws.proofs.Each.{each_set}
use Rattle.cl_order_laws.proofs.Likeness.{rank_itself}
use Rattle.cl_order_laws.proofs.SureHub.{reply_is}
use Rattle.cl_reduction_laws.specs.Below.{AreAlike}
use Rattle.cl_reduction_laws.proofs.Below.{likeness_law}
use Rattle.cl_reduction_laws.specs.Below.{Turn}
use Rattle.cl_schedule_laws.specs.Machines.{AllWithin as AllInside, GoesOn}
use Rattle.cl_reduction_laws.specs.Clusters.{IsAtBox, IsWithin, Search, State, awake_cluster, cluster_machine}
use Rattle.cl_reduction_laws.specs.Settled.{AllWithin, FindsClaim}
use Rattle.cl_reduction_laws.proofs.Awake.{map_set, mapped}
use Rattle.cl_reduction_laws.proofs.Good.{Gone, alone, called, gone, made_within, met}
use Rattle.cl_reduction_laws.proofs.Machine.{IsSame, each_itself, same_alike, taken}
use Rattle.cl_reduction_laws.proofs.Follows.{follows}
use Rattle.cl_reduction_laws.proofs.Clusters.{own_or_vain, set_kept, vain, vain_box}

-- ---- one turn

-- a rank that was told something, and is the same awake but for its clock
each_waking : (xs ys : List Rank) (r : ℕ) (x z : Rank) (stamp : ℕ) → slice_get xs r ≡ Some x → ys ≡ slice_set xs r z
    → awake z ≡ at_clock (awake x) stamp
    → AreEach (AlikeRanks no_renaming) (map awake xs) (map awake ys)
each_waking xs ys r x z stamp here set same =
    subst (λ us. AreEach (AlikeRanks no_renaming) us (map awake ys))
    (set_kept (map awake xs) r (awake x) (mapped awake xs r x here))
    (subst (λ vs. AreEach (AlikeRanks no_renaming) (slice_set (map awake xs) r (awake x)) vs)
    (sym (ap (map awake) set ∙ map_set awake xs r z ∙ ap (slice_set (map awake xs) r) same))
    (each_set (AlikeRanks no_renaming) (map awake xs) (map awake xs) r (awake x) (at_clock (awake x) stamp)
    (each_itself (map awake xs)) (rank_itself (awake x) stamp)))

-- a claim that finds its message isn't told that nothing is there
pub claims_or_vain : (c : Cluster) (r : ℕ) (q : Request) → reply_in c.journal r q ≡ NotYet → FindsClaim c r (Ask.Hub q) → ⊥
claims_or_vain c r (request.Claim comm source tag) none found = found none
claims_or_vain c r (request.Send sync comm dest tag bytes) none found = found
claims_or_vain c r (request.Recv now comm source tag) none found = found
claims_or_vain c r (request.Collect n) none found = found
claims_or_vain c r (request.Finished n) none found = found
claims_or_vain c r (request.Probe comm source tag) none found = found
claims_or_vain c r (request.Claimed now n) none found = found
claims_or_vain c r (request.All ns) none found = found
claims_or_vain c r (request.Init sends comm peer tag parts size) none found = found
claims_or_vain c r (request.Cut link) none found = found

idle_or_hub : (q : Request) → Ask.Idle ≡ Ask.Hub q → ⊥
idle_or_hub q e = absurd (cc)

module _ (search : Search) where
  abbrev hart : ℕ → ℕ
  hart = search.harts

  -- the rank's hart is stopped, or waits in vain
  abbrev pub Rests : Cluster → ℕ → Rank → Type 0
  Rests c r rank = IsStopped (mode_of rank (search.harts r)) ⊎ WaitsInVain c r rank (search.harts r)

  abbrev pub AllRest : Cluster → Type 0
  AllRest c = (r : ℕ) (rank : Rank) → slice_get c.ranks r ≡ Some rank → Rests c r rank

  pub stopped_turn : (r : ℕ) (c new : Cluster) (rank : Rank) → slice_get c.ranks r ≡ Some rank → IsStopped (mode_of rank (hart r))
      → Gone r (hart r) c new rank → IsSame c new
  stopped_turn r c new rank there stopped (alone stamp own ranks journal boxes) = record {
    ranks = each_waking c.ranks new.ranks r rank (told rank (hart r) answer.Alone stamp) stamp there ranks
        (ap awake ((vain_law.stopped) rank (hart r) stamp answer.Alone stopped).1);
    hubs = ap hub_of journal;
    boxes = boxes;
  }
  stopped_turn r c new rank there stopped (called q asks k) =
      absurd (idle_or_hub q (sym ((vain_law.stopped) rank (hart r) 0 answer.Alone stopped).0 ∙ asks))
  stopped_turn r c new rank there stopped (met at box) =
      absurd (subst IsAtBox ((vain_law.stopped) rank (hart r) 0 answer.Alone stopped).0 at)

  pub waiting_turn : (r : ℕ) (c new : Cluster) (rank : Rank) → slice_get c.ranks r ≡ Some rank
      → waits_on (doing rank.site (part_of rank (hart r))) ≡ true → IsInVain c r (asked rank (hart r))
      → Gone r (hart r) c new rank → IsSame c new
  waiting_turn r c new rank there on none (alone stamp own ranks journal boxes) =
      absurd (own_or_vain c r (asked rank (hart r)) own none)
  waiting_turn r c new rank there on none (called q asks k) =
      vain search r c new rank q there on asks k
      (sym (reply_is c.journal r q) ∙ subst (IsInVain c r) asks none)
  waiting_turn r c new rank there on none (met at box) = vain_box search r c new rank there on none box

  pub rest_turn : (r : ℕ) (c new : Cluster) (rank : Rank) → slice_get c.ranks r ≡ Some rank → Rests c r rank
      → Gone r (hart r) c new rank → IsSame c new
  rest_turn r c new rank there (inl stopped) went = stopped_turn r c new rank there stopped went
  rest_turn r c new rank there (inr waits) went = waiting_turn r c new rank there (waits.0).on waits.1 went

  abbrev pub Alike : State search → State search → Type 0
  Alike a b = AreAlike search.wild (awake_cluster a.cluster) (awake_cluster b.cluster)

  -- it leads to what is alike
  pub rest_alike : (r : ℕ) (a b : State search) (rank : Rank) → slice_get a.cluster.ranks r ≡ Some rank
      → IsWithin search a.cluster r → Rests a.cluster r rank → Turn r (hart r) a.cluster b.cluster → Alike a b
  rest_alike r a b rank there within rests turn =
      same_alike search.wild a.cluster b.cluster (a.good).boxes
      (rest_turn r a.cluster b.cluster rank there rests
      (gone r (hart r) a.cluster b.cluster rank there
      (made_within search.patterns r (hart r) rank (within rank there).0) turn))

  pub alike_back : (a b : State search) → Alike a b → Alike b a
  alike_back a b k = likeness_law.back search.wild (awake_cluster a.cluster) (awake_cluster b.cluster) k

  pub alike_on : (a b c : State search) → Alike a b → Alike b c → Alike a c
  alike_on a b c k l =
      likeness_law.on search.wild (awake_cluster a.cluster) (awake_cluster b.cluster) (awake_cluster c.cluster) k l

  -- ---- turns, one behind the other

  -- where all rest, turns within the patterns lead to what is alike, also from what is alike
  pub rest_walk : (a : State search) → AllWithin search a.cluster → AllRest a.cluster → (rs : List ℕ) (c d : State search)
      → Alike c a → (walk : GoesOn (cluster_machine search) rs c d) → AllInside (cluster_machine search) rs c d walk
      → Alike d a
  rest_walk a within rest [] c d alike walk inside = subst (λ (x : State search). Alike x a) (sym walk) alike
  rest_walk a within rest (r ∷ rs) c d alike walk inside =
      let f = follows search r c a walk.0 alike inside.0 walk.1 in
      let t = taken r (hart r) a.cluster f.there.cluster f.goes in
      let home = rest_alike r a f.there t.rank t.there (within r) (rest r t.rank t.there) f.goes in
      rest_walk a within rest rs walk.0 d (alike_on walk.0 f.there a f.alike (alike_back a f.there home)) walk.2 inside.1
