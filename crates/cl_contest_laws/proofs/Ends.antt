-- Where nobody goes on, a node is an end that is alike.
use Rattle.std.proofs.Common.{◌≡◌, ◌∙◌, ◌⊎◌, ℕ, refl, sym, ap, subst, arith, inl, inr, true, List, [], ◌∷◌, length, Some}
use Rattle.std.specs.Prelude.{get_or, map}
use Rattle.std.specs.List.{slice_get}
use Rattle.std.proofs.lemmas.List.{length-map}
use Rattle.rv_hart.specs.State.{State as Hart}
use Rattle.rv_hart.specs.declared.state.Mode.{Mode}
use Rattle.rv_hart.specs.declared.state.Mode.TheVariants.{Running, Waiting, Ended, Trapped}
use Rattle.rv_hart.specs.declared.state.Wait.TheVariants.{Post, Again}
use Rattle.mp_types.specs.declared.replies.Reply.TheVariants.{NotYet}
use Rattle.mp_types.specs.declared.requests.Request.{Request}
use Rattle.mp_alike_laws.specs.Renaming.{Renaming, number_by, request_by}
use Rattle.mp_source_laws.proofs.Answers.{answers_law}
use Rattle.cl_journal.specs.Journal.{calls_of}
use Rattle.cl_names_laws.specs.Named.{ask_by, hart_by, mode_by, rank_by}
use Rattle.cl_state.specs.declared.asking.Ask.{Ask}
use Rattle.cl_state.specs.Asked.{Part, asked, no_hart}
use Rattle.cl_state.specs.Rank.{Rank}
use Rattle.cl_state_laws.specs.Awake.{awake, awake_hart, woken}
use Rattle.cl_state_laws.specs.Vain.{IsStopped, IsWaiting, mode_of}
use Rattle.cl_state_laws.specs.VainLaws.{at_clock}
use Rattle.cl_state_laws.proofs.Wakes.{part_awake}
use Rattle.cl_order_laws.specs.Alike.{AlikeRanks}
use Rattle.cl_machine.specs.Journal.{reply_in}
use Rattle.cl_order_laws.specs.Closed.{IsInVain}
use Rattle.cl_order_laws.proofs.Ahead.{mode_alike}
use Rattle.cl_order_laws.proofs.SureHub.{reply_is}
use Rattle.cl_reduction_laws.specs.Below.{AreAlike, AskOfLive, AskWithin}
use Rattle.cl_reduction_laws.specs.Clusters.{Search, State}
use Rattle.cl_reduction_laws.specs.Settled.{FindsClaim, IsFit, IsThere}
use Rattle.cl_rest_laws.specs.Rests.{rests}
use Rattle.cl_reduction_laws.proofs.Clusters.{cluster_machine_law}
use Rattle.cl_reduction_laws.proofs.Follows.{asks_live, asks_too, pair, pair_from, waits_too}
use Rattle.cl_contest_laws.proofs.Rest.{Alike, AllRest, Rests, alike_back, claims_or_vain}

-- ---- modes

-- who isn't running when awake is so asleep
unwoken : (n m : Mode) → (Running ≡ m → ⊥) → woken n ≡ m → n ≡ m
unwoken Running m not e = absurd (not e)
unwoken (Waiting Again) m not e = absurd (not e)
unwoken (Waiting (Post post)) m not e = e
unwoken (Ended value) m not e = e
unwoken (Trapped cause pc) m not e = e

module _ (names : Renaming) where
  stopped_too : (n m : Mode) → IsStopped m → woken n ≡ mode_by names (woken m) → n ≡ mode_by names m
  stopped_too n (Ended value) is e = unwoken n (Ended value) (λ k. absurd (cc)) e
  stopped_too n (Trapped cause pc) is e = unwoken n (Trapped cause pc) (λ k. absurd (cc)) e
  stopped_too n _ is e = absurd is

  again_too : (n : Mode) → IsWaiting n → woken n ≡ Running → n ≡ Waiting Again
  again_too (Waiting Again) is e = refl
  again_too (Waiting (Post post)) is e = absurd (cc)
  again_too _ is e = absurd is

  waiting_too : (n m : Mode) → IsWaiting m → IsWaiting n → woken n ≡ mode_by names (woken m) → n ≡ mode_by names m
  waiting_too n (Waiting Again) is also e = again_too n also e
  waiting_too n (Waiting (Post post)) is also e =
      unwoken n (Waiting (Post (number_by names post))) (λ k. absurd (cc)) e
  waiting_too n _ is also e = absurd is

  stopped_on : (m : Mode) → IsStopped m → IsStopped (mode_by names m)
  stopped_on (Ended value) is = tt
  stopped_on (Trapped cause pc) is = tt
  stopped_on _ is = absurd is

  -- ---- ranks that are alike once awake, and of one hart

  module _ (x y : Rank) (alike : AlikeRanks names (awake x) (awake y)) where
    pub woken_too : (hart : ℕ) → woken (mode_of y hart) ≡ mode_by names (woken (mode_of x hart))
    woken_too hart =
        sym (ap (λ (p : Part). p.hart.mode) (part_awake y hart))
        ∙ mode_alike names (awake x) (awake y) alike hart
        ∙ ap (λ (p : Part). mode_by names p.hart.mode) (part_awake x hart)

    pub stops_too : (hart : ℕ) → IsStopped (mode_of x hart) → IsStopped (mode_of y hart)
    stops_too hart is =
        subst IsStopped (sym (stopped_too (mode_of y hart) (mode_of x hart) is (woken_too hart))) (stopped_on (mode_of x hart) is)

    pub many_too : length y.harts ≡ length x.harts
    many_too =
        sym (length-map y.harts awake_hart) ∙ ap (λ (z : Rank). length z.harts) alike.1
        ∙ length-map (map awake_hart x.harts) (hart_by names) ∙ length-map x.harts awake_hart

    hart_too : (u v : Hart) → awake_hart v ≡ hart_by names (awake_hart u) → v.mode ≡ mode_by names u.mode
        → v ≡ hart_by names u
    hart_too u v e mode = (λ i. record { regs = (e i).regs; pc = (e i).pc; mode = mode i })

    same_one : (u v : Hart) → (let us : List Hart = u ∷ [] in let vs : List Hart = v ∷ [] in us ≡ vs) → u ≡ v
    same_one u v e = cc

    harts_too : (us vs : List Hart) → length us ≡ 1 → length vs ≡ 1
        → map awake_hart vs ≡ map (hart_by names) (map awake_hart us)
        → (get_or vs 0 no_hart).mode ≡ mode_by names (get_or us 0 no_hart).mode
        → vs ≡ map (hart_by names) us
    harts_too (u ∷ []) (v ∷ []) one also e mode =
        ap (λ (w : Hart). (let ws : List Hart = w ∷ [] in ws))
        (hart_too u v (same_one (awake_hart v) (hart_by names (awake_hart u)) e) mode)
    harts_too [] vs one also e mode = absurd (omega (arith, one))
    harts_too (u ∷ w ∷ us) vs one also e mode = absurd (omega (arith, one))
    harts_too (u ∷ []) [] one also e mode = absurd (omega (arith, also))
    harts_too (u ∷ []) (v ∷ w ∷ vs) one also e mode = absurd (omega (arith, also))

    -- where the harts' modes correspond, the ranks do
    pub ranks_too : length x.harts ≡ 1 → mode_of y 0 ≡ mode_by names (mode_of x 0) → AlikeRanks names x y
    ranks_too one mode =
        let e = alike.1 in
        let harts = harts_too x.harts y.harts one (many_too ∙ one) (ap (λ (z : Rank). z.harts) e) mode in
        let same : y ≡ at_clock (rank_by names x) alike.0 =
        (λ i. record {
          site = (e i).site;
          memory = (e i).memory;
          harts = harts i;
          requests = (e i).requests;
          phases = (e i).phases;
          out = (e i).out;
          clock = (e i).clock;
        }) in
        (alike.0, same)

-- ---- clusters

module _ (search : Search) (zero_harts : (r : ℕ) → search.harts r ≡ 0) (a node : State search) (alike : Alike search a node)
    (fit : IsFit search node.cluster) (rest : AllRest search a.cluster) where
  -- what is known of the ranks of this number
  record Pairs (r : ℕ) (x y : Rank) : Type 0 where
    pairs : AlikeRanks alike.0 (awake x) (awake y)
    rests : Rests search node.cluster r y
    mode : mode_of y 0 ≡ mode_by alike.0 (mode_of x 0)

  -- where a rank's call is in vain, so is that of the one that corresponds
  vain_too : (r : ℕ) (x : Rank) → slice_get a.cluster.ranks r ≡ Some x → (q : Request) → asked x (search.harts r) ≡ Ask.Hub q
      → reply_in a.cluster.journal r q ≡ NotYet → reply_in node.cluster.journal r (request_by alike.0 q) ≡ NotYet
  vain_too r x here q is none =
      reply_is node.cluster.journal r (request_by alike.0 q)
      ∙ (answers_law.reply) search.wild alike.0 a.cluster.journal.links node.cluster.journal.links
      (calls_of a.cluster.journal.entries) (calls_of node.cluster.journal.entries) r q
      (subst (AskWithin search.wild r) is
      ((cluster_machine_law search).within r node a (alike_back search a node alike) (fit.within r) x here).1)
      (subst (AskOfLive a.cluster) is (asks_live search a r (search.harts r) x here)) (alike.1).hubs
      ∙ sym (reply_is a.cluster.journal r q) ∙ none

  -- which claims nothing then, and nothing is there
  none_found : (r : ℕ) (x : Rank) → slice_get a.cluster.ranks r ≡ Some x → (q : Ask) → asked x (search.harts r) ≡ q
      → IsInVain a.cluster r q → (b : Ask) → b ≡ ask_by alike.0 q
      → FindsClaim node.cluster r b ⊎ ((rests node.cluster r (search.harts r) ≡ true) × IsThere node.cluster r b) → ⊥
  none_found r x here q is none b same (inl found) =
      claims q is none (subst (FindsClaim node.cluster r) same found)
    where
      claims : (q : Ask) → asked x (search.harts r) ≡ q → IsInVain a.cluster r q
          → FindsClaim node.cluster r (ask_by alike.0 q) → ⊥
      claims (Ask.Hub q) is none found =
          claims_or_vain node.cluster r (request_by alike.0 q) (vain_too r x here q is none) found
      claims Ask.Plain is none found = found
      claims Ask.Local is none found = found
      claims Ask.Idle is none found = found
      claims Ask.Held is none found = found
      claims (Ask.Ready link part bytes) is none found = found
      claims (Ask.Look link part) is none found = found
      claims (Ask.Freed link part) is none found = found
  none_found r x here q is none b same (inr rest) =
      there q is none (subst (IsThere node.cluster r) same rest.1)
    where
      there : (q : Ask) → asked x (search.harts r) ≡ q → IsInVain a.cluster r q
          → IsThere node.cluster r (ask_by alike.0 q) → ⊥
      there (Ask.Hub q) is none found = found (vain_too r x here q is none)
      there Ask.Plain is none found = found
      there Ask.Local is none found = none
      there Ask.Idle is none found = found
      there Ask.Held is none found = found
      there (Ask.Ready link part bytes) is none found = found
      there (Ask.Look link part) is none found = found
      there (Ask.Freed link part) is none found = found

  pairs_of : (r : ℕ) (x y : Rank) → slice_get a.cluster.ranks r ≡ Some x → slice_get node.cluster.ranks r ≡ Some y
      → AlikeRanks alike.0 (awake x) (awake y) → Rests search a.cluster r x
      → Pairs r x y
  pairs_of r x y here there both (inl stopped) = record {
    pairs = both;
    rests = inl (stops_too alike.0 x y both (search.harts r) stopped);
    mode = subst (λ h. mode_of y h ≡ mode_by alike.0 (mode_of x h)) (zero_harts r)
        (stopped_too alike.0 (mode_of y (search.harts r)) (mode_of x (search.harts r)) stopped
        (woken_too alike.0 x y both (search.harts r)));
  }
  pairs_of r x y here there both (inr waits) =
      let sx = (a.good).stands r x here in
      let sy = (node.good).stands r y there in
      let on = waits_too alike.0 (search.harts r) x y sx sy both ∙ (waits.0).on in
      elim (fit.rests r y there on) [
        | inl too ↦ record {
          pairs = both;
          rests = inr too;
          mode = subst (λ h. mode_of y h ≡ mode_by alike.0 (mode_of x h)) (zero_harts r)
              (waiting_too alike.0 (mode_of y (search.harts r)) (mode_of x (search.harts r)) (waits.0).waits (too.0).waits
              (woken_too alike.0 x y both (search.harts r)));
        }
        | inr found ↦ absurd (none_found r x here (asked x (search.harts r)) refl waits.1 (asked y (search.harts r))
            (asks_too alike.0 (search.harts r) x y sx sy both) found)
      ]

  -- all rest at the node too
  pub rest_too : AllRest search node.cluster
  rest_too r y there =
      let f = pair_from search r a.cluster node.cluster alike y there in
      (pairs_of r f.0 y f.1 there f.2 (rest r f.0 f.1)).rests

  -- and where each rank has one hart, they are alike as they are
  pub alike_asleep : ((r : ℕ) (rank : Rank) → slice_get a.cluster.ranks r ≡ Some rank → length rank.harts ≡ 1)
      → AreAlike search.wild a.cluster node.cluster
  alike_asleep one = (
    alike.0,
    record {
      ranks = record {
        many = sym (length-map node.cluster.ranks awake) ∙ ((alike.1).ranks).many ∙ length-map a.cluster.ranks awake;
        each = λ r x here.
            let p = pair search r a.cluster node.cluster alike x here in
            let k = pairs_of r x p.other here p.there p.alike (rest r x here) in
            (p.other, p.there, ranks_too alike.0 x p.other p.alike (one r x here) k.mode);
      };
      hubs = (alike.1).hubs;
      boxes = (alike.1).boxes;
    },
  )
