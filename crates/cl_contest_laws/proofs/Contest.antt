-- What a closed list tells of a run.
use Rattle.std.proofs.Common.{◌≡◌, ◌∙◌, ℕ, refl, sym, subst, true, List, map}
use Rattle.cl_machine.specs.declared.steps.Step.{Step}
use Rattle.cl_machine.specs.Cluster.{Cluster, IsRun}
use Rattle.cl_order_laws.specs.Alike.{hub_of}
use Rattle.cl_order_laws.specs.Closed.{FollowPlans, IsEnd, Node, Plans, had_after}
use Rattle.cl_order_laws.specs.Sure.{GoesOn}
use Rattle.cl_order_laws.proofs.Covered.{node_of}
use Rattle.cl_order_laws.proofs.Walks.{walk_of}
use Rattle.cl_outcome_laws.specs.Companies.{IsCompany}
use Rattle.cl_outcome_laws.specs.Laws.{HasCompany}
use Rattle.cl_reduction_laws.specs.Below.{AreAlike}
use Rattle.cl_rest_laws.specs.Buffering.{NeedBuffers}
use Rattle.cl_schedule_laws.specs.Laws.{IsFound, IsLasting}
use Rattle.cl_reduction_laws.specs.Clusters.{Search, State, cluster_machine}
use Rattle.cl_reduction_laws.specs.Settled.{AllWithin, AreOnSides, IsSettled}
use Rattle.cl_reduction_laws.proofs.Clusters.{cluster_machine_law}
use Rattle.cl_contest_laws.specs.Laws.{ContestLaw, HasAlikeEnd, HasNeed}
use Rattle.cl_contest_laws.specs.Lists.{IsClosedByContest, IsOneOf, StartsWell}
use Rattle.cl_contest_laws.proofs.Companies.{company_still, company_too, still_walk}
use Rattle.cl_contest_laws.proofs.Homes.{AreHome, home_of, links_of, links_walk}
use Rattle.cl_contest_laws.proofs.Ends.{alike_asleep, rest_too}
use Rattle.cl_contest_laws.proofs.Kept.{AreClosed, Anything, anything_lasts, kept}
use Rattle.cl_contest_laws.proofs.Lists.{HasOneEach, all_rest, comes, is_end, list_closed, one_walk, planned_of}
use Rattle.cl_contest_laws.proofs.Quiet.{AreQuiet, need_there, quiet_lasts, quiet_of}
use Rattle.cl_contest_laws.proofs.Rest.{Alike, AllRest, alike_back, alike_on, rest_walk}
use Rattle.cl_contest_laws.proofs.Walks.{IsPlanned, Walked, arrives, walked}

-- where all rest, the node that is found is alike
module _ (search : Search) (Is : Cluster → Type 0) (P : State search → Type 0) (a : State search)
    (f : IsFound (cluster_machine search) (kept search Is) P a) (rest : AllRest search a.cluster) where
  pub node_alike : Alike search a f.node
  node_alike =
      alike_on search a f.there f.node
      (alike_back search f.there a
      (rest_walk search a f.within rest f.more a f.there ((cluster_machine_law search).itself a) f.walk f.inside))
      f.alike

-- ---- turns from where a search began

module _ (search : Search) (plans : Plans) (nodes : List Node) (start : Node) (well : StartsWell search plans start.cluster)
    (settled : IsSettled search (IsOneOf nodes) start.cluster) (closed : IsClosedByContest search plans nodes) where
  abbrev planned : IsPlanned search plans
  planned = planned_of search plans start.cluster well.single

  abbrev are_closed : AreClosed search (IsOneOf nodes)
  are_closed = list_closed search plans planned nodes closed

  abbrev first : State search
  first = record { cluster = start.cluster; good = well.good }

  module _ (ranks_of : List ℕ) (last : Node) (walk : GoesOn plans ranks_of start last) where
    pub came : Walked search plans planned ranks_of first last.cluster
    came = walked search plans planned (IsOneOf nodes) are_closed settled.0 first settled.1 ranks_of start last refl walk

    pub finds : (P : State search → Type 0) → IsLasting (cluster_machine search) P
        → IsFound (cluster_machine search) (kept search (IsOneOf nodes)) P came.last
    finds P lasts =
        arrives search plans planned (IsOneOf nodes) are_closed settled.0 first settled.1 P lasts ranks_of last.cluster came

    pub finds_node : IsFound (cluster_machine search) (kept search (IsOneOf nodes)) (Anything search) came.last
    finds_node = finds (Anything search) (anything_lasts search)

    within_walk : AllWithin search last.cluster
    within_walk = subst (AllWithin search) came.is finds_node.within

    one : HasOneEach came.last.cluster
    one = subst HasOneEach (sym came.is) (one_walk plans ranks_of start last walk (well.single).one)

    -- ---- an end

    end_of : IsEnd plans last.cluster → HasAlikeEnd search plans nodes last.cluster
    end_of is =
        let a = came.last in
        let node = finds_node.node in
        let at : IsOneOf nodes node.cluster = finds_node.is in
        let rest = all_rest search plans planned a.cluster (subst (IsEnd plans) (sym came.is) is) in
        let alike = node_alike search (IsOneOf nodes) (Anything search) a finds_node rest in
        let fit = are_closed.fit node.cluster at in
        let rests = rest_too search (well.single).harts a node alike fit rest in
        let same = alike_asleep search (well.single).harts a node alike fit rest one in (
          at.0,
          at.1,
          at.2,
          subst (IsEnd plans) (sym at.3) (is_end search plans planned node.cluster rests),
          subst (λ c. AreAlike search.wild last.cluster c) (sym at.3)
              (subst (λ c. AreAlike search.wild c node.cluster) came.is same),
        )

  -- ---- a run

  module _ (steps : List Step) (end : Cluster) (run : IsRun start.cluster steps end)
      (follow : FollowPlans plans start.had steps) where
    abbrev steps_ranks : List ℕ
    steps_ranks = map (λ (e : Step). e.rank) steps

    abbrev end_node : Node
    end_node = node_of end (had_after start.had steps)

    abbrev walk_there : GoesOn plans steps_ranks start end_node
    walk_there = walk_of plans steps start.cluster end start.had run follow

    ends : IsEnd plans end → HasAlikeEnd search plans nodes end
    ends is = end_of steps_ranks end_node walk_there is

    within : AllWithin search end
    within = within_walk steps_ranks end_node walk_there

    -- who is on which side of a link is so at a node, and so where the run led
    abbrev there : State search
    there = (came steps_ranks end_node walk_there).last

    sides_there : AreOnSides (hub_of there.cluster.journal).links search.patterns
    sides_there =
        let f = finds_node steps_ranks end_node walk_there in
        subst (λ ls. AreOnSides ls search.patterns)
        (((f.alike).1).hubs.links ∙ links_walk search f.more there f.there f.walk f.inside)
        (are_closed.fit f.node.cluster f.is).sides

    home_there : AreHome (well.reached).0 there.cluster
    home_there =
        home_of (well.reached).0 there.cluster
        (comes start.cluster there.cluster steps well.reached
        (subst (IsRun start.cluster steps) (sym (came steps_ranks end_node walk_there).is) run))
        (one steps_ranks end_node walk_there)

    -- ---- a company

    companies : (ranks : List ℕ) → IsCompany ranks end → HasCompany ranks nodes
    companies ranks company =
        let c = came steps_ranks end_node walk_there in
        let f = finds_node steps_ranks end_node walk_there in
        let at : IsOneOf nodes f.node.cluster = f.is in
        let image = (well.reached).0 in
        let still = still_walk search image ranks f.more there f.there f.walk f.inside
        (company_still search image ranks (well.single).harts there.cluster f.within home_there
        (links_of there.cluster) sides_there (subst (IsCompany ranks) (sym c.is) company)) in
        let too = company_too search image ranks (well.single).harts f.there f.node f.alike
        (are_closed.fit f.node.cluster at) still in
        (at.0, at.1, at.2, subst (IsCompany ranks) (sym at.3) too)

    -- ---- ranks that need buffers

    buffering : search.may_wait ≡ true → (ranks : List ℕ) → NeedBuffers ranks end → HasNeed ranks nodes
    buffering may_wait ranks need =
        let image = (well.reached).0 in
        let f = finds steps_ranks end_node walk_there (λ (a : State search). AreQuiet search image ranks a.cluster)
        (quiet_lasts search image ranks may_wait) in
        let at : IsOneOf nodes f.node.cluster = f.is in
        let quiet = f.keeps
        (quiet_of search image ranks (well.single).harts there.cluster f.within home_there sides_there
        (subst (NeedBuffers ranks) (sym (came steps_ranks end_node walk_there).is) need)) in
        let needs = need_there search image ranks (well.single).harts f.node.cluster (are_closed.fit f.node.cluster at) quiet in
        (at.0, at.1, at.2, subst (NeedBuffers ranks) (sym at.3) needs)

pub contest_law : ContestLaw
contest_law = record {
  ends = λ search plans nodes start well settled closed steps end run follow is.
      ends search plans nodes start well settled closed steps end run follow is;
  walks = λ search plans nodes start well settled closed ranks last walk is.
      end_of search plans nodes start well settled closed ranks last walk is;
  companies = λ search plans nodes start well settled closed steps end run follow ranks company.
      companies search plans nodes start well settled closed steps end run follow ranks company;
  buffering = λ search plans nodes start well settled closed waits steps end run follow ranks need.
      buffering search plans nodes start well settled closed steps end run follow waits ranks need;
  within = λ search plans nodes start well settled closed steps end run follow.
      within search plans nodes start well settled closed steps end run follow;
}
