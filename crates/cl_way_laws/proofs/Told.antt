-- What a search tells of runs with messages on their way.
use Rattle.std.proofs.Common.{◌≡◌, ◌∙◌, ℕ, ◌⊎◌, sym, ap, subst, arith, inl, inr, Bool, true, List, [], ◌∷◌, length, Some}
use Rattle.std.specs.List.{slice_get}
use Rattle.rv_image_types.specs.declared.images.ImageParts.{ImageParts}
use Rattle.mp_types.specs.declared.replies.Reply.{Reply}
use Rattle.mp_types.specs.declared.replies.Reply.TheVariants as reply
use Rattle.mp_types.specs.declared.requests.Request.TheVariants as request
use Rattle.mp_match.specs.declared.posts.Line.{Line}
use Rattle.mp_hub.specs.Hub.{outcome}
use Rattle.mp_way_laws.specs.Way.{all_arrived}
use Rattle.mp_way_laws.specs.Runs.{NamesSource}
use Rattle.mp_way_laws.specs.Laws.{IsCameTo}
use Rattle.cl_state.specs.declared.asking.Ask.{Ask}
use Rattle.cl_state.specs.Asked.{asked, doing, part_of}
use Rattle.cl_state.specs.Rank.{Rank}
use Rattle.cl_state_laws.specs.Vain.{IsPatient, IsStopped, mode_of, waits_on}
use Rattle.cl_machine.specs.Boxes.{box_number}
use Rattle.cl_machine.specs.Cluster.{Cluster}
use Rattle.cl_order_laws.specs.Alike.{hub_of}
use Rattle.cl_order_laws.specs.Closed.{IsEnd, IsInVain, Node, Plans, none_had}
use Rattle.cl_order_laws.proofs.SureHub.{reply_is}
use Rattle.cl_outcome_laws.specs.Companies.{IsCompany}
use Rattle.cl_outcome_laws.specs.Laws.{HasCompany}
use Rattle.cl_rest_laws.specs.Buffering.{NeedBuffers}
use Rattle.cl_schedule_laws.specs.Laws.{IsFound}
use Rattle.cl_reduction_laws.specs.Below.{AreAlike, AskWithin}
use Rattle.cl_reduction_laws.specs.Clusters.{Search, State, awake_cluster, cluster_machine}
use Rattle.cl_reduction_laws.specs.Patterns.{IsAllowed, pattern_of_ask}
use Rattle.cl_reduction_laws.specs.Settled.{AreOnSides}
use Rattle.cl_reduction_laws.proofs.Awake.{from_mapped}
use Rattle.cl_delay_laws.specs.Laws.{PollsOn as StatesPollOn}
use Rattle.cl_delay_laws.proofs.Polls.{along}
use Rattle.cl_contest_laws.specs.Laws.{HasAlikeEnd, HasNeed}
use Rattle.cl_contest_laws.specs.Lists.{IsOneOf}
use Rattle.cl_contest_laws.proofs.Companies.{company_still, company_too, still_walk}
use Rattle.cl_contest_laws.proofs.Contest.{node_alike}
use Rattle.cl_contest_laws.proofs.Ends.{alike_asleep, rest_too}
use Rattle.cl_contest_laws.proofs.Homes.{links_of, links_walk}
use Rattle.cl_contest_laws.proofs.Kept.{Anything, anything_lasts, kept}
use Rattle.cl_contest_laws.proofs.Lists.{is_end}
use Rattle.cl_contest_laws.proofs.Quiet.{AreQuiet, need_there, quiet_lasts, quiet_of}
use Rattle.cl_contest_laws.proofs.Rest.{AllRest, alike_back, alike_on}
use Rattle.cl_contest_laws.proofs.Walks.{by_plans}
use Rattle.cl_way_laws.specs.Clusters.{IsArrived, IsInVainOnWay, IsWayEnd, WayCluster}
use Rattle.cl_way_laws.specs.Laws.{IsRunAtOnce, IsSearched, PollsOn, WayClusterLaw}
use Rattle.cl_way_laws.specs.Met.{is_met, met}
use Rattle.cl_way_laws.proofs.AllCame.{vain_now}
use Rattle.cl_way_laws.proofs.Asking.{names_source}
use Rattle.cl_way_laws.proofs.MetAsks.{DoesSame, asks_met, doing_met}
use Rattle.cl_way_laws.proofs.MetEnds.{gathers_then}
use Rattle.cl_way_laws.proofs.MetNeeds.{Gathers, WaitsForMet, gathers_asks, wait_asks}
use Rattle.cl_way_laws.proofs.MetRanks.{same_within}
use Rattle.cl_way_laws.proofs.Named.{NamesApart}
use Rattle.cl_way_laws.proofs.Posting.{met_is_done}
use Rattle.cl_way_laws.proofs.Reached.{Reached, alike_there, are_closed, arrived_there, finds_there, first, home_there, is, matched, planned, reached, there}
use Rattle.cl_way_laws.proofs.SameHubs.{same_call}
use Rattle.cl_way_laws.proofs.Sure.{polls_sure}

-- polls of states are polls of their clusters
polls_by : (search : Search) (rs : List ℕ) (a b : State search) → StatesPollOn (cluster_machine search) rs a b
    → PollsOn search rs a.cluster b.cluster
polls_by search [] a b polls = ap (λ (s : State search). s.cluster) polls
polls_by search (r ∷ rs) a b polls = (polls.0, polls.1.cluster, polls.2, polls_by search rs polls.1 b polls.3)

module _ (search : Search) (plans : Plans) (nodes : List Node) (image : ImageParts)
    (searched : IsSearched search plans nodes image)
    (w : WayCluster) (k : Reached search plans nodes image searched w) (c : Cluster)
    (arrived : IsArrived w c) where
  abbrev a : State search
  a = there search plans nodes image searched w k c arrived

  abbrev lines : List Line
  lines = (all_arrived w.way).board.lines

  abbrev planned_so : (r i : ℕ) → plans r i ≡ search.harts r
  planned_so = planned search plans nodes image searched

  abbrev zero_harts : (r : ℕ) → search.harts r ≡ 0
  zero_harts = (searched.well).single.harts

  found_node : IsFound (cluster_machine search) (kept search (IsOneOf nodes)) (Anything search) a
  found_node = finds_there search plans nodes image searched w k c arrived (Anything search) (anything_lasts search)

  one : (r : ℕ) (rank : Rank) → slice_get c.ranks r ≡ Some rank → length rank.harts ≡ 1
  one r rank at = (home_there search plans nodes image searched w k c arrived r rank at).one

  -- ---- the run

  pub run_at_once : IsRunAtOnce search plans image c
  run_at_once =
      let i = matched search plans nodes image searched w k in
      let here = k.here.state in
      let near = alike_there search plans nodes image searched w k c arrived in
      let p = along (cluster_machine search) (is search plans nodes image searched)
      (polls_sure search) i.polls here a i.there
      (alike_back search a here near) i.polled in
      let f = first search plans nodes image searched in
      let g = by_plans search plans planned_so i.ranks f i.end none_had i.walk in
      record {
        ranks = i.ranks;
        last = g.0;
        walk = g.1;
        polls = i.polls;
        there = p.last.cluster;
        polled = polls_by search i.polls a p.last p.polls;
        alike = subst (λ e. AreAlike search.wild (awake_cluster p.last.cluster) (awake_cluster e)) (sym g.2)
            (alike_on search p.last i.there i.end (alike_back search i.there p.last p.alike) i.alike);
      }

  -- ---- an end

  came : IsCameTo image.links w.way
  came = subst (λ (v : WayCluster). IsCameTo image.links v.way) k.is_here k.here.came

  module _ (ended : IsWayEnd w) where
    vain_there : (r : ℕ) (rank : Rank) → slice_get c.ranks r ≡ Some rank → (q : Ask) → asked rank (search.harts r) ≡ q
        → IsInVainOnWay w r q → IsInVain c r q
    vain_there r rank at (Ask.Hub q) asks none =
        let on = waits_on (doing rank.site (part_of rank (search.harts r))) in
        let its = found_node.within r rank at in
        let named : NamesSource q = names_source search searched.waits r on q
        (subst (λ x. IsAllowed search.patterns r (pattern_of_ask on x)) asks its.0)
        (subst (AskWithin search.wild r) asks its.1) in
        reply_is c.journal r q ∙ sym (same_call (hub_of c.journal) (all_arrived w.way) r q arrived.hub).0
        ∙ vain_now image.links w.way came ended.arrived r q named none
    vain_there r rank at (Ask.Look link part) asks none =
        λ box here. none box (ap (λ bs. slice_get bs (box_number link part)) (sym arrived.boxes) ∙ here)
    vain_there r rank at (Ask.Freed link part) asks none =
        λ box here. none box (ap (λ bs. slice_get bs (box_number link part)) (sym arrived.boxes) ∙ here)
    vain_there r rank at Ask.Held asks none = none
    vain_there r rank at Ask.Plain asks none = none
    vain_there r rank at Ask.Local asks none = none
    vain_there r rank at Ask.Idle asks none = none
    vain_there r rank at (Ask.Ready link part bytes) asks none = none

    abbrev d : Rank → ℕ → Bool
    d x = is_met lines x.site.number

    choice : (r : ℕ) (x : Rank) → slice_get c.ranks r ≡ Some (met lines x)
        → DoesSame (d x) x.memory x.requests (doing x.site (part_of x (search.harts r)))
        ⊎ (WaitsForMet (d x) x.requests (doing x.site (part_of x (search.harts r)))
        ⊎ Gathers (d x) x.memory x.requests (doing x.site (part_of x (search.harts r))))
    choice r x at = same_within search searched.waits c r (λ z at. found_node.within r z at) lines x at

    -- a WAITALL that isn't told anything there
    gathers_rest : (r : ℕ) (x : Rank) → slice_get w.ranks r ≡ Some x → slice_get c.ranks r ≡ Some (met lines x)
        → Gathers (d x) x.memory x.requests (doing x.site (part_of x (search.harts r)))
        → IsInVainOnWay w r (asked x (search.harts r)) → IsInVain c r (asked (met lines x) (search.harts r))
    gathers_rest r x there at g none =
        subst (IsInVain c r) (sym then.1)
        (reply_is c.journal r (request.All then.0)
        ∙ sym (same_call (hub_of c.journal) (all_arrived w.way) r (request.All then.0) arrived.hub).0
        ∙ then.2)
      where
        apart : NamesApart x.requests
        apart = k.here.apart r x (ap (λ (v : WayCluster). slice_get v.ranks r) k.is_here ∙ there)

        number : x.site.number ≡ r
        number =
            ap (λ s. s.number) (home_there search plans nodes image searched w k c arrived r (met lines x) at).site

        never : (outcome (all_arrived w.way) r (request.All (g.post ∷ g.posts))).0 ≡ reply.NotYet
        never =
            vain_now image.links w.way came ended.arrived r (request.All (g.post ∷ g.posts)) tt
            (subst (IsInVainOnWay w r) (gathers_asks (d x) x (search.harts r) g) none)

        then : (ns : List ℕ) × (asked (met lines x) (search.harts r) ≡ Ask.Hub (request.All ns))
            × ((outcome (all_arrived w.way) r (request.All ns)).0 ≡ reply.NotYet)
        then = gathers_then (all_arrived w.way) x (search.harts r) g apart r number never

    -- it waits for what isn't there, or for what has arrived, which it would be told
    rests_so : (r : ℕ) (x : Rank) → slice_get w.ranks r ≡ Some x → slice_get c.ranks r ≡ Some (met lines x)
        → IsPatient x (search.harts r) → IsInVainOnWay w r (asked x (search.harts r))
        → IsPatient (met lines x) (search.harts r) × IsInVain c r (asked (met lines x) (search.harts r))
    rests_so r x there at patient none = elim (choice r x at) [
      | inl same ↦
          let asks = asks_met (d x) x (search.harts r) same in (
            record {
              waits = patient.waits;
              on = ap waits_on (doing_met (d x) x.site (part_of x (search.harts r))) ∙ patient.on;
            },
            subst (IsInVain c r) (sym asks) (vain_there r (met lines x) at (asked x (search.harts r)) asks none),
          )
      | inr (inl waits_so) ↦
          let never = vain_now image.links w.way came ended.arrived r (request.Finished waits_so.n) tt
          (subst (IsInVainOnWay w r) (wait_asks (d x) x (search.harts r) waits_so) none) in
          let number : x.site.number ≡ r =
          ap (λ s. s.number) (home_there search plans nodes image searched w k c arrived r (met lines x) at).site in
          let done = met_is_done (all_arrived w.way) r waits_so.n
          (ap (λ k. is_met lines k waits_so.n) (sym number) ∙ (waits_so.names).met) in
          absurd (done_is_not _ never done)
      | inr (inr gathers_so) ↦
          let on = ap waits_on (doing_met (d x) x.site (part_of x (search.harts r)) ∙ gathers_so.is) in
          (record { waits = patient.waits; on = on }, gathers_rest r x there at gathers_so none)
    ]
      where
        done_is_not : (x : Reply) → x ≡ reply.NotYet → x ≡ reply.Done → ⊥
        done_is_not x none done = (let e = sym none ∙ done in absurd (cc))

    abbrev Rests : ℕ → Rank → Type 0
    Rests r rank =
        IsStopped (mode_of rank (search.harts r))
        ⊎ (IsPatient rank (search.harts r) × IsInVain c r (asked rank (search.harts r)))

    rest : AllRest search c
    rest r rank at =
        let f = from_mapped (met lines) w.ranks r rank (ap (λ xs. slice_get xs r) (sym arrived.ranks) ∙ at) in
        let its : slice_get c.ranks r ≡ Some (met lines f.0) = at ∙ ap (λ z. Some z) (sym f.2) in
        let zero = zero_harts r in
        let many = one r (met lines f.0) its in
        subst (Rests r) f.2 (elim (ended.nobody r (search.harts r) f.0 f.1 (omega (arith, zero, many))) [
          | inl stopped ↦ inl stopped
          | inr waits ↦ inr (rests_so r f.0 f.1 its waits.0 waits.1)
        ])

    pub ends : HasAlikeEnd search plans nodes c
    ends =
        let f = found_node in
        let node = f.node in
        let at : IsOneOf nodes node.cluster = f.is in
        let alike = node_alike search (IsOneOf nodes) (Anything search) a f rest in
        let fit = (are_closed search plans nodes image searched).fit node.cluster at in
        let rests = rest_too search zero_harts a node alike fit rest in
        let same = alike_asleep search zero_harts a node alike fit rest one in (
          at.0,
          at.1,
          at.2,
          subst (IsEnd plans) (sym at.3) (is_end search plans planned_so node.cluster rests),
          subst (λ d. AreAlike search.wild c d) (sym at.3) same,
        )

  -- ---- a company

  sides : AreOnSides (hub_of c.journal).links search.patterns
  sides =
      let f = found_node in
      subst (λ ls. AreOnSides ls search.patterns)
      (((f.alike).1).hubs.links ∙ links_walk search f.more a f.there f.walk f.inside)
      ((are_closed search plans nodes image searched).fit f.node.cluster f.is).sides

  pub companies : (ranks : List ℕ) → IsCompany ranks c → HasCompany ranks nodes
  companies ranks company =
      let f = found_node in
      let at : IsOneOf nodes f.node.cluster = f.is in
      let home = home_there search plans nodes image searched w k c arrived in
      let still = still_walk search image ranks f.more a f.there f.walk f.inside
      (company_still search image ranks zero_harts c f.within home (links_of c) sides company) in
      let too = company_too search image ranks zero_harts f.there f.node f.alike
      ((are_closed search plans nodes image searched).fit f.node.cluster at) still in
      (at.0, at.1, at.2, subst (IsCompany ranks) (sym at.3) too)

  -- ---- ranks that need buffers

  pub buffering : search.may_wait ≡ true → (ranks : List ℕ) → NeedBuffers ranks c → HasNeed ranks nodes
  buffering may_wait ranks need =
      let home = home_there search plans nodes image searched w k c arrived in
      let f = finds_there search plans nodes image searched w k c arrived
      (λ (s : State search). AreQuiet search image ranks s.cluster) (quiet_lasts search image ranks may_wait) in
      let at : IsOneOf nodes f.node.cluster = f.is in
      let quiet = f.keeps (quiet_of search image ranks zero_harts c f.within home sides need) in
      let needs = need_there search image ranks zero_harts f.node.cluster
      ((are_closed search plans nodes image searched).fit f.node.cluster at) quiet in
      (at.0, at.1, at.2, subst (NeedBuffers ranks) (sym at.3) needs)

-- ---- the law

pub way_cluster_law : WayClusterLaw
way_cluster_law = record {
  arrives = λ search plans nodes image searched es w run.
      let k = reached search plans nodes image searched es w run in
      (k.here.state.cluster, arrived_there search plans nodes image searched w k);
  runs = λ search plans nodes image searched es w run c arrived.
      run_at_once search plans nodes image searched w (reached search plans nodes image searched es w run) c arrived;
  ends = λ search plans nodes image searched es w run ended c arrived.
      ends search plans nodes image searched w (reached search plans nodes image searched es w run) c arrived ended;
  companies = λ search plans nodes image searched es w run c arrived ranks company.
      companies search plans nodes image searched w (reached search plans nodes image searched es w run) c arrived
      ranks company;
  buffering = λ search plans nodes image searched may_wait es w run c arrived ranks need.
      buffering search plans nodes image searched w (reached search plans nodes image searched es w run) c arrived
      may_wait ranks need;
}
