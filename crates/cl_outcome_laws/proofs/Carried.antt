-- Ranks that are a company at a cluster are one at each node that covers it.
use Rattle.std.proofs.Common.{◌≡◌, ℕ, ◌<◌, ◌⊎◌, inl, inr, List, length, Bool, Option, Some, None, refl, sym, ap, ◌∙◌, subst, arith}
use Rattle.std.specs.Prelude.{IsTrue, nat_lt}
use Rattle.std.specs.List.{slice_get}
use Rattle.std.specs.Option.{option_map}
use Rattle.std.proofs.lemmas.Bool.{cases_Bool, ltb-false, ltb-true}
use Rattle.std.proofs.lemmas.List.{get_or_past}
use Rattle.std.proofs.lemmas.Option.{same_Some, slice_get-map}
use Rattle.rv_hart.specs.State.{State}
use Rattle.mp_types.specs.declared.requests.Request.{Request}
use Rattle.mp_types.specs.declared.requests.Request.TheVariants as request
use Rattle.mp_match.specs.declared.posts.Line.{Line}
use Rattle.mp_match.specs.Board.{line_of}
use Rattle.mp_transfers.specs.Inits.{is_receiver}
use Rattle.mp_hub.specs.Hub.{HubView, hub_at_start}
use Rattle.mp_hub.proofs.Transfers.{links_on}
use Rattle.mp_wait_laws.specs.Waits.{IsUpTo, OnlyOf, could_pair, sends_over}
use Rattle.mp_wait_laws.proofs.Owned.{AreOwned, owned_after}
use Rattle.mp_alike_laws.specs.Renaming.{Renaming, line_by, number_by, request_by}
use Rattle.mp_alike_laws.specs.Alike.{AlikeHubs}
use Rattle.mp_alike_laws.proofs.Answers.{answers_law}
use Rattle.mp_alike_laws.proofs.Named.{line_named, ready_named}
use Rattle.cl_journal.specs.Journal.{calls_of}
use Rattle.cl_calls.specs.declared.sites.Site.{Site}
use Rattle.cl_state.specs.declared.asking.Answer.{Answer}
use Rattle.cl_state.specs.declared.asking.Ask.{Ask}
use Rattle.cl_state.specs.Asked.{asked, no_hart}
use Rattle.cl_state.specs.Rank.{Rank}
use Rattle.cl_state.specs.Told.{told}
use Rattle.cl_state_laws.specs.Vain.{IsStopped, IsWaiting, mode_of}
use Rattle.cl_state_laws.specs.VainLaws.{at_clock}
use Rattle.cl_state_laws.proofs.Vain.{vain_law}
use Rattle.cl_names_laws.specs.Named.{ask_by, rank_by}
use Rattle.cl_machine.specs.Boxes.{box_number}
use Rattle.cl_machine.specs.Cluster.{Cluster}
use Rattle.cl_deadlock_laws.specs.Stuck.{AreStuck, AsksInVain, IsStuckHart, is_among, is_member}
use Rattle.cl_order_laws.specs.Alike.{AlikeBoxes, AlikeRanks, AreEach, hub_of}
use Rattle.cl_order_laws.specs.Closed.{IsCovered, NeedsOnlyRank, Node, Plans}
use Rattle.cl_order_laws.proofs.Ahead.{Rests, mode_alike, resting, stopped_on}
use Rattle.cl_order_laws.proofs.Boxes.{empty_before, empty_too}
use Rattle.cl_order_laws.proofs.Deadlocks.{patient_on, waiting_on}
use Rattle.cl_order_laws.proofs.Likeness.{each_from, within_list}
use Rattle.cl_order_laws.proofs.Ranks.{asked_alike, harts_alike}
use Rattle.cl_outcome_laws.specs.Companies.{IsCompany}

-- ---- who could bring it, in alike hubs

module _ (member : ℕ → ℕ → Bool) (names : Renaming) where
  pair_by : (o : Option Line) (k : ℕ) → could_pair member (option_map (line_by names) o) k ≡ could_pair member o k
  pair_by None k = refl
  pair_by (Some line) k = refl

module _ (member : ℕ → ℕ → Bool) (among : ℕ → Bool) (names : Renaming) (a b : HubView) (alike : AlikeHubs names a b)
    (owned : AreOwned a) where
  only_pair : (n : ℕ) → OnlyOf among (could_pair member (line_of a.board n))
      → OnlyOf among (could_pair member (line_of b.board (number_by names n)))
  only_pair n only k could =
      only k (sym (ap (λ o. could_pair member o k) (line_named names a.board b.board alike.board n)
      ∙ pair_by member names (line_of a.board n) k) ∙ could)

  up_to_named : (rank : ℕ) (q : Request) → IsUpTo member among a rank q
      → IsUpTo member among b rank (request_by names q)
  up_to_named rank (request.Collect n) up_to = only_pair n up_to
  up_to_named rank (request.Finished n) up_to = only_pair n up_to
  up_to_named rank (request.Probe comm source tag) up_to = up_to
  up_to_named rank (request.Claim comm source tag) up_to = up_to
  up_to_named rank (request.All ns) up_to = (
    up_to.0,
    number_by names up_to.1,
    slice_get-map (number_by names) ns up_to.0 ∙ ap (option_map (number_by names)) up_to.2,
    ready_named names a b alike owned rank up_to.1 ∙ up_to.3,
    only_pair up_to.1 up_to.4,
  )
  up_to_named rank (request.Cut link) up_to =
      λ k could. up_to k (ap (λ ls. sends_over ls link k) (sym alike.links) ∙ could)
  up_to_named rank _ up_to = absurd up_to

-- ---- what is asked in vain

module _ (ranks : List ℕ) (names : Renaming) (a b : Cluster) (hubs : AlikeHubs names (hub_of a.journal) (hub_of b.journal))
    (boxes : AreEach AlikeBoxes a.boxes b.boxes) where
  same_links : b.journal.links ≡ a.journal.links
  same_links =
      sym (links_on (calls_of b.journal.entries) (hub_at_start b.journal.links)) ∙ hubs.links
      ∙ links_on (calls_of a.journal.entries) (hub_at_start a.journal.links)

  vain_on : (r : ℕ) (site : Site) (q : Ask) → AsksInVain ranks a r site q → AsksInVain ranks b r site (ask_by names q)
  vain_on r site (Ask.Hub q) vain = (
    (answers_law.reply) names a.journal.links b.journal.links (calls_of a.journal.entries) (calls_of b.journal.entries) r
        q hubs ∙ vain.0,
    up_to_named (is_member site) (is_among ranks) names (hub_of a.journal) (hub_of b.journal) hubs
        (owned_after a.journal.links (calls_of a.journal.entries)) r q vain.1,
  )
  vain_on r site (Ask.Look link part) vain = (
    λ box there.
        let v = each_from boxes (box_number link part) box there in empty_too v.0 box v.2 (vain.0 v.0 v.1),
    λ k could. vain.1 k (ap (λ ls. sends_over ls link k) (sym same_links) ∙ could),
  )
  vain_on r site (Ask.Freed link part) vain = (
    λ box there empty.
        let v = each_from boxes (box_number link part) box there in vain.0 v.0 v.1 (empty_before v.0 box v.2 empty),
    λ k could. vain.1 k (ap (λ ls. is_receiver ls k link) (sym same_links) ∙ could),
  )
  vain_on r site Ask.Held vain = tt
  vain_on r site Ask.Plain vain = absurd vain
  vain_on r site Ask.Local vain = absurd vain
  vain_on r site Ask.Idle vain = absurd vain
  vain_on r site (Ask.Ready link part bytes) vain = absurd vain

  -- ---- a hart

  stuck_on : (r : ℕ) (x y : Rank) → AlikeRanks names x y → (hart : ℕ)
      → IsStopped (mode_of x hart) ⊎ IsStuckHart ranks a r x hart
      → IsStopped (mode_of y hart) ⊎ IsStuckHart ranks b r y hart
  stuck_on r x y alike hart (inl stopped) =
      inl (subst IsStopped (sym (mode_alike names x y alike hart)) (stopped_on names x y alike (mode_of x hart) stopped))
  stuck_on r x y alike hart (inr held) = inr (record {
    patient = patient_on names x y alike hart held.patient;
    in_vain =
        subst (λ site. AsksInVain ranks b r site (asked y hart)) (sym (ap (λ (z : Rank). z.site) alike.1))
        (subst (AsksInVain ranks b r x.site) (sym (asked_alike names x y alike hart))
        (vain_on r x.site (asked x hart) held.in_vain));
  })

-- ---- a rank that is stuck changes nothing but its clock

module _ (ranks : List ℕ) (c : Cluster) (r : ℕ) (x : Rank) where
  abbrev pub IsHeld : ℕ → Type 0
  IsHeld hart = IsStopped (mode_of x hart) ⊎ IsStuckHart ranks c r x hart

  -- a hart that isn't there counts as stopped
  pub each_held : ((hart : ℕ) → hart < length x.harts → IsHeld hart) → (hart : ℕ) → IsHeld hart
  each_held stuck hart = elim (cases_Bool (nat_lt hart (length x.harts))) [
    | inl below ↦ stuck hart (ltb-true hart (length x.harts) below)
    | inr past ↦
        let none = get_or_past x.harts hart no_hart (ltb-false hart (length x.harts) past) in
        inl (subst (λ (s : State). IsStopped s.mode) (sym none) tt)
  ]

  held_rests : (hart stamp : ℕ) → IsStuckHart ranks c r x hart → NeedsOnlyRank (asked x hart)
      → told x hart Answer.Alone stamp ≡ at_clock x stamp
  held_rests hart stamp held needs = go (asked x hart) refl
    where
      go : (q : Ask) → asked x hart ≡ q → told x hart Answer.Alone stamp ≡ at_clock x stamp
      go Ask.Held e = (vain_law.held) x hart stamp held.patient e
      go Ask.Plain e = absurd (subst (AsksInVain ranks c r x.site) e held.in_vain)
      go Ask.Local e = absurd (subst (AsksInVain ranks c r x.site) e held.in_vain)
      go Ask.Idle e = absurd (subst (AsksInVain ranks c r x.site) e held.in_vain)
      go (Ask.Hub request) e = absurd (subst NeedsOnlyRank e needs)
      go (Ask.Ready link part bytes) e = absurd (subst NeedsOnlyRank e needs)
      go (Ask.Look link part) e = absurd (subst NeedsOnlyRank e needs)
      go (Ask.Freed link part) e = absurd (subst NeedsOnlyRank e needs)

  stuck_rests : (plan : ℕ → ℕ) → ((hart : ℕ) → hart < length x.harts → IsHeld hart) → Rests plan x
  stuck_rests plan stuck = λ n stamp needs. elim (each_held stuck (plan n)) [
    | inl stopped ↦ ((vain_law.stopped) x (plan n) stamp Answer.Alone stopped).1
    | inr held ↦ held_rests (plan n) stamp held needs
  ]

-- ---- a company

module _ (plans : Plans) (ranks : List ℕ) (nodes : List Node) (here : Node) (cov : IsCovered plans nodes here)
    (stuck : AreStuck ranks here.cluster) where
  abbrev Same : ℕ → Rank → Type 0
  Same r x = (y : Rank) × (slice_get cov.node.cluster.ranks r ≡ Some y) × AlikeRanks cov.names x y

  -- each of these ranks is alike the node's
  same_rank : (r : ℕ) (x : Rank) → IsTrue (is_among ranks r) → slice_get here.cluster.ranks r ≡ Some x → Same r x
  same_rank r x among there =
      let v = cov.ranks r x there in
      let b = v.2 in
      let rests = stuck_rests ranks here.cluster r x (plans r) (λ hart below. stuck r x hart among there below) in
      let stays = resting (plans r) x rests b.turns x.clock (here.had r) b.then b.after b.ahead in
      (v.0, v.1, ((b.alike).0, (b.alike).1 ∙ ap (λ (z : Rank). at_clock (rank_by cov.names z) (b.alike).0) stays.1))

  stuck_there : AreStuck ranks cov.node.cluster
  stuck_there r y hart among there below =
      let x = within_list cov.node.cluster.ranks here.cluster.ranks (sym cov.many) r y there in
      let v = same_rank r x.0 among x.1 in
      let alike : AlikeRanks cov.names x.0 y =
      subst (λ z. AlikeRanks cov.names x.0 z) (same_Some v.0 y (sym v.1 ∙ there)) v.2 in
      let many = harts_alike cov.names x.0 y alike in
      stuck_on ranks cov.names here.cluster cov.node.cluster cov.hubs cov.boxes r x.0 y alike hart
      (stuck r x.0 hart among x.1 (omega (arith, below, many)))

pub company_covered : (plans : Plans) (ranks : List ℕ) (nodes : List Node) (here : Node) (cov : IsCovered plans nodes here)
    → IsCompany ranks here.cluster → IsCompany ranks cov.node.cluster
company_covered plans ranks nodes here cov company =
    let w = company.waits in
    let v = same_rank plans ranks nodes here cov company.stuck w.r w.rank w.among w.there in
    record {
      stuck = stuck_there plans ranks nodes here cov company.stuck;
      waits = record {
        r = w.r;
        rank = v.0;
        hart = w.hart;
        among = w.among;
        there = v.1;
        waits = subst IsWaiting (sym (mode_alike cov.names w.rank v.0 v.2 w.hart))
            (waiting_on cov.names w.rank v.0 v.2 (mode_of w.rank w.hart) w.waits);
      };
    }
