-- Ranks that need buffers stay held up along turns of ranks that go first, and need them at the node to which those lead.
use Rattle.std.proofs.Common.{◌≡◌, ◌∙◌, ℕ, refl, sym, ap, subst, arith, ◌⊎◌, inl, inr, Bool, true, false, List, [], map, Option, Some, None}
use Rattle.std.specs.Prelude.{◌&&◌, ◌||◌, ◌==◌, not}
use Rattle.std.specs.List.{list_all, list_any, slice_get}
use Rattle.std.specs.Option.{option_map}
use Rattle.std.proofs.lemmas.Bool.{and_left, cases_Bool}
use Rattle.std.proofs.lemmas.Option.{same_Some, slice_get-map}
use Rattle.rv_image_types.specs.declared.images.ImageParts.{ImageParts}
use Rattle.rv_hart.specs.declared.state.Mode.{Mode}
use Rattle.rv_hart.specs.declared.state.Mode.TheVariants.{Running, Waiting, Ended, Trapped}
use Rattle.rv_hart.specs.declared.state.Wait.TheVariants.{Post, Again}
use Rattle.mp_request.specs.declared.entries.OpenRequest.{OpenRequest}
use Rattle.mp_request.specs.Table.{request_at}
use Rattle.mp_match.specs.declared.posts.Sent.{Sent}
use Rattle.mp_types.specs.declared.requests.Request.TheVariants as request
use Rattle.mp_hub.specs.Hub.{HubView, is_ready}
use Rattle.mp_wait_laws.proofs.Owned.{AreOwned, owned_after}
use Rattle.mp_source_laws.proofs.Named.{all_ready_named}
use Rattle.cl_journal.specs.Journal.{calls_of}
use Rattle.mp_alike_laws.specs.Renaming.{Renaming, number_by}
use Rattle.cl_calls.specs.declared.calls.Call.{Call}
use Rattle.cl_calls.specs.declared.sites.Site.{Site}
use Rattle.cl_calls.specs.Calls.{call_named}
use Rattle.cl_names_laws.specs.Named.{ask_by, open_by, table_by}
use Rattle.cl_names_laws.proofs.Tables.{request_named}
use Rattle.cl_state.specs.declared.asking.Ask.{Ask}
use Rattle.cl_state.specs.Asked.{Part, asked, doing, doing_in, part_of}
use Rattle.cl_state.specs.Rank.{Rank}
use Rattle.cl_state_laws.specs.Awake.{StandsAtCall, awake, woken}
use Rattle.cl_state_laws.specs.Members.{AreInside, IsInside}
use Rattle.cl_state_laws.specs.Vain.{IsStopped, mode_of, waits_on}
use Rattle.cl_state_laws.proofs.Wakes.{does_awake, part_awake}
use Rattle.cl_machine.specs.Cluster.{Cluster}
use Rattle.cl_deadlock_laws.specs.Stuck.{IsStuckHart, is_among}
use Rattle.cl_order_laws.specs.Alike.{AlikeRanks, hub_of}
use Rattle.cl_order_laws.specs.Closed.{IsInVain}
use Rattle.cl_order_laws.proofs.SureHub.{reply_is}
use Rattle.cl_rest_laws.specs.Buffering.{NeedBuffers, RestsAmong}
use Rattle.cl_rest_laws.specs.Rests.{IsElseReady, handles_ahead, handles_waited_for, is_behind_call, is_free_to_go, is_message_of, is_open_post, may_wait_for_receipt, post_of_send, rests, rests_before, rests_behind, rests_for, rests_if, rests_in, says_buffered, spelled, stands_behind_call}
use Rattle.cl_rest_laws.specs.Unreceived.{is_unreceived}
use Rattle.cl_rest_laws.proofs.Resting.{rest_law}
use Rattle.cl_schedule_laws.specs.Laws.{IsLasting}
use Rattle.cl_reduction_laws.specs.Below.{AskOfLive, Turn}
use Rattle.cl_reduction_laws.specs.Clusters.{IsWithin, Search, State, awake_cluster, cluster_machine, weight_in}
use Rattle.cl_reduction_laws.specs.Settled.{AllWithin, AreOnSides, IsFit}
use Rattle.cl_reduction_laws.proofs.Exchanged.{kept_rank}
use Rattle.cl_reduction_laws.proofs.Follows.{asks_live, asks_too, pair, pair_from, waits_too, within_too}
use Rattle.cl_reduction_laws.proofs.Good.{Gone, gone, made_within}
use Rattle.cl_reduction_laws.proofs.Machine.{IsSame, same_alike, taken}
use Rattle.cl_contest_laws.proofs.Companies.{WaitsAt, below_one, brings, held_of, home_all, none_found, out_of, vain_of, waits_alike}
use Rattle.cl_contest_laws.proofs.Ends.{many_too, stops_too}
use Rattle.cl_contest_laws.proofs.Homes.{AreHome, IsHome, links_of, links_stay}
use Rattle.cl_contest_laws.proofs.Rest.{Alike, stopped_turn, waiting_turn}

-- ---- who rests

-- a hart that is to make its call anew is as free to go as a running one
free_awake : (m : Mode) → is_free_to_go (woken m) ≡ is_free_to_go m
free_awake Running = refl
free_awake (Waiting Again) = refl
free_awake (Waiting (Post post)) = refl
free_awake (Ended code) = refl
free_awake (Trapped cause pc) = refl

-- a hart that polls a post isn't free to go
light_free : (m : Mode) → weight_in m ≡ 0 → is_free_to_go m ≡ false
light_free (Waiting (Post post)) light = refl
light_free Running light = absurd (omega (arith, light))
light_free (Waiting Again) light = absurd (omega (arith, light))
light_free (Ended code) light = absurd (omega (arith, light))
light_free (Trapped cause pc) light = absurd (omega (arith, light))

-- and is about to wait for no request
light_ahead : (site : Site) (p : Part) (m : Mode) → weight_in m ≡ 0 → handles_waited_for p.memory (doing_in m site p) ≡ []
light_ahead site p (Waiting (Post post)) light = refl
light_ahead site p Running light = absurd (omega (arith, light))
light_ahead site p (Waiting Again) light = absurd (omega (arith, light))
light_ahead site p (Ended code) light = absurd (omega (arith, light))
light_ahead site p (Trapped cause pc) light = absurd (omega (arith, light))

none_ahead : (x : Rank) (hart : ℕ) → weight_in (mode_of x hart) ≡ 0 → handles_ahead x hart ≡ []
unfolding doing
none_ahead x hart light = light_ahead x.site (part_of x hart) (mode_of x hart) light

stands_awake : (x : Rank) (hart : ℕ) → stands_behind_call (awake x) hart ≡ stands_behind_call x hart
stands_awake x hart =
    ap (λ (p : Part). is_free_to_go p.hart.mode && behind p) (part_awake x hart)
    ∙ ap (λ b. b && behind (part_of x hart)) (free_awake (mode_of x hart))
  where
    behind : Part → Bool
    behind p = is_behind_call p.memory p.hart && may_wait_for_receipt p.hart

spelled_awake : (x : Rank) (hart : ℕ) → spelled (awake x) hart ≡ spelled x hart
spelled_awake x hart = ap (λ (p : Part). call_named p.hart) (part_awake x hart)

-- so a hart that stands at the call that it is to make anew rests whether it is awake or not
module _ (p : Sent → Bool) (hub : HubView) (r hart : ℕ) where
  behind_awake : (x : Rank) → rests_behind p hub r (awake x) hart ≡ rests_behind p hub r x hart
  behind_awake x =
      ap (λ b. b && sent (spelled (awake x) hart)) (stands_awake x hart)
      ∙ ap (λ k. stands_behind_call x hart && sent k) (spelled_awake x hart)
    where
      sent : Call → Bool
      sent k = list_any (is_unreceived (λ m. is_message_of x.site r k m && p m) hub) hub.board.lines

  before_awake : (x : Rank) → StandsAtCall x hart → rests_before p hub r (awake x) hart ≡ rests_before p hub r x hart
  before_awake x stands =
      ap (λ (q : Part). not (says_buffered q.hart) && open_sends (handles_ahead (awake x) hart)) (part_awake x hart)
      ∙ ap (λ d. not (says_buffered (part_of x hart).hart) && open_sends (handles_waited_for x.memory d))
      (does_awake x hart stands)
    where
      open_sends : List ℕ → Bool
      open_sends = list_any (λ h. is_open_post p hub r (post_of_send (request_at x.requests h)))

  in_awake : (x : Rank) → StandsAtCall x hart → rests_in p hub r (awake x) hart ≡ rests_in p hub r x hart
  in_awake x stands =
      ap (λ b. b || rests_before p hub r (awake x) hart) (behind_awake x)
      ∙ ap (λ b. rests_behind p hub r x hart || b) (before_awake x stands)

pub rests_awake : (p : Sent → Bool) (c : Cluster) (r hart : ℕ)
    → ((x : Rank) → slice_get c.ranks r ≡ Some x → StandsAtCall x hart)
    → rests_if p (hub_of c.journal) r (slice_get (awake_cluster c).ranks r) hart
    ≡ rests_if p (hub_of c.journal) r (slice_get c.ranks r) hart
rests_awake p c r hart stands =
    ap (λ o. rests_if p (hub_of c.journal) r o hart) (slice_get-map awake c.ranks r) ∙ go (slice_get c.ranks r) stands
  where
    go : (o : Option Rank) → ((x : Rank) → o ≡ Some x → StandsAtCall x hart)
        → rests_if p (hub_of c.journal) r (option_map awake o) hart ≡ rests_if p (hub_of c.journal) r o hart
    go None at = refl
    go (Some x) at = in_awake p (hub_of c.journal) r hart x (at x refl)

-- a hart that polls a post doesn't rest
pub light_goes : (c : Cluster) (r hart : ℕ) (x : Rank) → slice_get c.ranks r ≡ Some x → weight_in (mode_of x hart) ≡ 0
    → rests c r hart ≡ false
light_goes c r hart x there light =
    ap (λ o. rests_if (λ m. true) hub r o hart) there
    ∙ ap (λ b. b || rests_before (λ m. true) hub r x hart)
    (and_left _ _ (and_left _ _ (light_free (mode_of x hart) light)))
    ∙ ap (λ hs. not (says_buffered (part_of x hart).hart)
    && list_any (λ h. is_open_post (λ m. true) hub r (post_of_send (request_at x.requests h))) hs)
    (none_ahead x hart light)
    ∙ no_false (not (says_buffered (part_of x hart).hart))
  where
    hub : HubView
    hub = hub_of c.journal

    no_false : (b : Bool) → (b && false) ≡ false
    no_false true = refl
    no_false false = refl

-- ---- ranks that are alike are at home in one image

home_alike : (names : Renaming) (image : ImageParts) (r : ℕ) (x y : Rank) → AlikeRanks names (awake x) (awake y)
    → IsHome image r x → IsHome image r y
home_alike names image r x y alike home = record {
  site = site ∙ home.site;
  inside = subst (λ (z : Site). AreInside z y.requests) (sym site)
      (λ handle q here. go handle q (request_at x.requests handle) refl
      (sym (request_named names (number_by names) x.requests handle) ∙ ap (λ t. request_at t handle) (sym requests) ∙ here));
  one = many_too names x y alike ∙ home.one;
}
  where
    site : y.site ≡ x.site
    site = ap (λ (z : Rank). z.site) alike.1

    requests : y.requests ≡ table_by names x.requests
    requests = ap (λ (z : Rank). z.requests) alike.1

    go : (handle : ℕ) (q : OpenRequest) (o : Option OpenRequest) → request_at x.requests handle ≡ o
        → option_map (open_by names) o ≡ Some q → IsInside x.site q.transfer
    go handle q None is e = absurd (cc)
    go handle q (Some p) is e =
        subst (λ (z : OpenRequest). IsInside x.site z.transfer) (same_Some (open_by names p) q e) (home.inside handle p is)

-- ---- ranks that are held up together

module _ (search : Search) (image : ImageParts) (ranks : List ℕ) where
  abbrev hart : ℕ → ℕ
  hart = search.harts

  -- the hart makes its call anew until there is what it asks for, which isn't there and could come from these ranks alone
  record WaitsOn (c : Cluster) (r : ℕ) (x : Rank) : Type 0 where
    on : waits_on (doing x.site (part_of x (search.harts r))) ≡ true
    waits : WaitsAt search image ranks (hub_of c.journal) c.boxes r x (asked x (search.harts r))

  abbrev IsHeldUp : Cluster → ℕ → Rank → Type 0
  IsHeldUp c r x =
      IsStopped (mode_of x (search.harts r)) ⊎ (WaitsOn c r x ⊎ RestsAmong ranks c r (search.harts r))

  record SomeRest (c : Cluster) : Type 0 where
    r : ℕ
    rank : Rank
    among : is_among ranks r ≡ true
    there : slice_get c.ranks r ≡ Some rank
    rest : RestsAmong ranks c r (search.harts r)
    else_ready : IsElseReady c r rank (search.harts r)

  -- each of these ranks is held up, and one by nothing but a receipt. Who waits may be about to make its call for the first time: clusters are
  -- alike whichever it is
  pub record AreQuiet (c : Cluster) : Type 0 where
    held : (r : ℕ) (x : Rank) → is_among ranks r ≡ true → slice_get c.ranks r ≡ Some x → IsHeldUp c r x
    within : (r : ℕ) → is_among ranks r ≡ true → IsWithin search c r
    some : SomeRest c
    home : AreHome image c
    sides : AreOnSides (hub_of c.journal).links search.patterns

  -- ---- in clusters that are alike

  module _ (a b : State search) (alike : Alike search a b) where
    rests_too : (r k : ℕ) → rests_for b.cluster r (hart r) k ≡ rests_for a.cluster r (hart r) k
    rests_too r k =
        sym (rests_awake (λ m. m.dest == k) b.cluster r (hart r) ((b.good).stands r))
        ∙ (rest_law.alike_for) search.wild (awake_cluster a.cluster) (awake_cluster b.cluster) r (hart r) k alike
        ∙ rests_awake (λ m. m.dest == k) a.cluster r (hart r) ((a.good).stands r)

    rest_alike : (r : ℕ) → RestsAmong ranks a.cluster r (hart r) → RestsAmong ranks b.cluster r (hart r)
    rest_alike r rest = record {
      receiver = rest.receiver;
      among = rest.among;
      rests_there = rests_too r rest.receiver ∙ rest.rests_there;
    }

    -- what else a call waits for is ready in both
    ready_alike : (r : ℕ) (x y : Rank) → slice_get a.cluster.ranks r ≡ Some x → slice_get b.cluster.ranks r ≡ Some y
        → AlikeRanks alike.0 (awake x) (awake y) → IsElseReady a.cluster r x (hart r) → IsElseReady b.cluster r y (hart r)
    ready_alike r x y here there both is posts asks =
        let sx = (a.good).stands r x here in
        let sy = (b.good).stands r y there in
        go (asked x (hart r)) refl (asks_live search a r (hart r) x here)
        (sym (asks_too alike.0 (hart r) x y sx sy both) ∙ asks)
      where
        owned : AreOwned (hub_of a.cluster.journal)
        owned = owned_after a.cluster.journal.links (calls_of a.cluster.journal.entries)

        all_named : (ns : List ℕ) → asked x (hart r) ≡ Ask.Hub (request.All ns)
            → AskOfLive (awake_cluster a.cluster) (Ask.Hub (request.All ns)) → map (number_by alike.0) ns ≡ posts
            → list_all (λ n. is_ready (hub_of b.cluster.journal) r n) posts ≡ true
        all_named ns e live same =
            subst (λ ps. list_all (λ n. is_ready (hub_of b.cluster.journal) r n) ps ≡ true) same
            (all_ready_named alike.0 (hub_of a.cluster.journal) (hub_of b.cluster.journal) (alike.1).hubs owned r ns live
            ∙ is ns e)

        go : (q : Ask) → asked x (hart r) ≡ q → AskOfLive (awake_cluster a.cluster) q
            → ask_by alike.0 q ≡ Ask.Hub (request.All posts)
            → list_all (λ n. is_ready (hub_of b.cluster.journal) r n) posts ≡ true
        go (Ask.Hub (request.All ns)) e live same =
            all_named ns e live (let named : map (number_by alike.0) ns ≡ posts = cc in named)
        go (Ask.Hub (request.Send sync comm dest tag bytes)) e live same = absurd (cc)
        go (Ask.Hub (request.Recv now comm source tag)) e live same = absurd (cc)
        go (Ask.Hub (request.Collect n)) e live same = absurd (cc)
        go (Ask.Hub (request.Finished n)) e live same = absurd (cc)
        go (Ask.Hub (request.Probe comm source tag)) e live same = absurd (cc)
        go (Ask.Hub (request.Claim comm source tag)) e live same = absurd (cc)
        go (Ask.Hub (request.Claimed now n)) e live same = absurd (cc)
        go (Ask.Hub (request.Init sends comm peer tag parts size)) e live same = absurd (cc)
        go (Ask.Hub (request.Cut link)) e live same = absurd (cc)
        go Ask.Plain e live same = absurd (cc)
        go Ask.Local e live same = absurd (cc)
        go Ask.Held e live same = absurd (cc)
        go Ask.Idle e live same = absurd (cc)
        go (Ask.Ready link part bytes) e live same = absurd (cc)
        go (Ask.Look link part) e live same = absurd (cc)
        go (Ask.Freed link part) e live same = absurd (cc)

    held_alike : (r : ℕ) (x y : Rank) → IsWithin search a.cluster r → slice_get a.cluster.ranks r ≡ Some x
        → slice_get b.cluster.ranks r ≡ Some y → AlikeRanks alike.0 (awake x) (awake y) → IsHeldUp a.cluster r x
        → IsHeldUp b.cluster r y
    held_alike r x y within here there both (inl stopped) = inl (stops_too alike.0 x y both (hart r) stopped)
    held_alike r x y within here there both (inr (inr rest)) = inr (inr (rest_alike r rest))
    held_alike r x y within here there both (inr (inl w)) =
        let sx = (a.good).stands r x here in
        let sy = (b.good).stands r y there in
        inr (inl (record {
          on = waits_too alike.0 (hart r) x y sx sy both ∙ w.on;
          waits = subst (WaitsAt search image ranks (hub_of b.cluster.journal) b.cluster.boxes r y)
              (sym (asks_too alike.0 (hart r) x y sx sy both))
              (waits_alike search image ranks a b alike r x y (asked x (hart r)) (ap (λ (z : Rank). z.site) both.1)
              (within x here).1 (asks_live search a r (hart r) x here) w.waits);
        }))

    quiet_alike : AreQuiet a.cluster → AreQuiet b.cluster
    quiet_alike quiet = record {
      held = λ r y among there.
          let f = pair_from search r a.cluster b.cluster alike y there in
          held_alike r f.0 y (quiet.within r among) f.1 there f.2 (quiet.held r f.0 among f.1);
      within = λ r among. within_too search r a b alike (quiet.within r among);
      some =
          let w = quiet.some in
          let p = pair search w.r a.cluster b.cluster alike w.rank w.there in
          record {
            r = w.r;
            rank = p.other;
            among = w.among;
            there = p.there;
            rest = rest_alike w.r w.rest;
            else_ready = ready_alike w.r w.rank p.other w.there p.there p.alike w.else_ready;
          };
      home = λ r y there.
          let f = pair_from search r a.cluster b.cluster alike y there in
          home_alike alike.0 image r f.0 y f.2 (quiet.home r f.0 f.1);
      sides = subst (λ ls. AreOnSides ls search.patterns) (sym (alike.1).hubs.links) quiet.sides;
    }

  -- ---- after a turn of a rank that doesn't rest

  none_there : (c : Cluster) (r : ℕ) (x : Rank) (a : Ask) → WaitsAt search image ranks (hub_of c.journal) c.boxes r x a
      → IsInVain c r a
  none_there c r x (Ask.Hub q) waits = reply_is c.journal r q ∙ waits.0
  none_there c r x (Ask.Look link part) waits = waits.0
  none_there c r x (Ask.Freed link part) waits = waits.0
  none_there c r x _ waits = absurd waits

  -- a turn of one of them changes nothing but its clock and who is awake
  mine : (r : ℕ) (c new : Cluster) (x : Rank) → slice_get c.ranks r ≡ Some x → rests c r (hart r) ≡ false → IsHeldUp c r x
      → Gone r (hart r) c new x → IsSame c new
  mine r c new x here goes (inl stopped) went = stopped_turn search r c new x here stopped went
  mine r c new x here goes (inr (inl w)) went =
      waiting_turn search r c new x here w.on (none_there c r x (asked x (hart r)) w.waits) went
  mine r c new x here goes (inr (inr rest)) went =
      (let e = sym goes ∙ (rest_law.each) c r (hart r) rest.receiver rest.rests_there in absurd (cc))

  -- a turn of another rank brings them nothing, and receives nothing from those that rest
  module _ (r : ℕ) (c new : Cluster) (x : Rank) (here : slice_get c.ranks r ≡ Some x) (out : is_among ranks r ≡ false)
      (turn : Turn r (search.harts r) c new) (quiet : AreQuiet c) (within : IsWithin search c r)
      (went : Gone r (search.harts r) c new x) where
    rest_stays : (s : ℕ) → is_among ranks s ≡ true → RestsAmong ranks c s (hart s) → RestsAmong ranks new s (hart s)
    rest_stays s among rest = record {
      receiver = rest.receiver;
      among = rest.among;
      rests_there =
          (rest_law.stays) c new s r (hart r) (hart s) rest.receiver (out_of search image ranks r s out among)
          (out_of search image ranks r rest.receiver out rest.among) turn rest.rests_there;
    }

    theirs : AreQuiet new
    theirs =
        let b = brings search image ranks r c new x out quiet.sides (within x here).0 went in
        let kept : (s : ℕ) → is_among ranks s ≡ true → slice_get new.ranks s ≡ slice_get c.ranks s =
        λ s among. kept_rank r (hart r) s c new turn (out_of search image ranks r s out among) in
        let own = quiet.home r x here in
        let w = quiet.some in
        record {
          held = λ s y among there.
              let at = sym (kept s among) ∙ there in
              elim (quiet.held s y among at) [
                | inl stopped ↦ inl stopped
                | inr up ↦ inr (elim up [
                  | inl waits ↦
                      inl (record { on = waits.on; waits = b.waits s y among own (quiet.home s y at) waits.waits })
                  | inr rest ↦ inr (rest_stays s among rest)
                ])
              ];
          within = λ s among z there. quiet.within s among z (sym (kept s among) ∙ there);
          some = record {
            r = w.r;
            rank = w.rank;
            among = w.among;
            there = kept w.r w.among ∙ w.there;
            rest = rest_stays w.r w.among w.rest;
            else_ready = (rest_law.ready) c new w.r r (hart r) (hart w.r) w.rank
                (out_of search image ranks r w.r out w.among) turn w.else_ready;
          };
          home = home_all search image ranks r c new x b.then here b.ranks_are quiet.home (b.home own);
          sides = subst (λ ls. AreOnSides ls search.patterns) (sym (links_stay r (hart r) c new x went)) quiet.sides;
        }

  quiet_turn : (r : ℕ) (a b : State search) → IsWithin search a.cluster r → rests a.cluster r (hart r) ≡ false
      → Turn r (hart r) a.cluster b.cluster → AreQuiet a.cluster → AreQuiet b.cluster
  quiet_turn r a b within goes turn quiet =
      let t = taken r (hart r) a.cluster b.cluster turn in
      let went = gone r (hart r) a.cluster b.cluster t.rank t.there
      (made_within search.patterns r (hart r) t.rank (within t.rank t.there).0) turn in
      elim (cases_Bool (is_among ranks r)) [
        | inl inside ↦
            quiet_alike a b
            (same_alike search.wild a.cluster b.cluster (a.good).boxes
            (mine r a.cluster b.cluster t.rank t.there goes (quiet.held r t.rank inside t.there) went))
            quiet
        | inr out ↦ theirs r a.cluster b.cluster t.rank t.there out turn quiet within went
      ]

  pub quiet_lasts : search.may_wait ≡ true → IsLasting (cluster_machine search) (λ (a : State search). AreQuiet a.cluster)
  quiet_lasts may_wait = record {
    alike = λ a b alike quiet. quiet_alike a b alike quiet;
    sure = λ rs r a b sure among turn quiet.
        let same = sym (sure.only r among) in
        quiet_turn r a b (subst (IsWithin search a.cluster) same sure.within)
        (subst (λ k. rests a.cluster k (hart k) ≡ false) same (sure.anyway may_wait)) turn quiet;
    ready = λ r a b polls turn quiet.
        quiet_turn r a b polls.within (light_goes a.cluster r (hart r) polls.rank polls.there polls.light) turn quiet;
  }

  -- ---- at a run's end, and at a node

  module _ (zero_harts : (r : ℕ) → search.harts r ≡ 0) where
    pub quiet_of : (c : Cluster) → AllWithin search c → AreHome image c → AreOnSides (hub_of c.journal).links search.patterns
        → NeedBuffers ranks c
        → AreQuiet c
    quiet_of c within home sides need = record {
      held = up;
      within = λ r among. within r;
      some =
          let w = need.some in
          let same : w.hart ≡ hart w.r =
          (let none = zero_harts w.r in let one = (home w.r w.rank w.there).one in let below = w.inside in
          omega (arith, none, one, below)) in
          record {
            r = w.r;
            rank = w.rank;
            among = w.among;
            there = w.there;
            rest = subst (RestsAmong ranks c w.r) same w.rests_there;
            else_ready = subst (IsElseReady c w.r w.rank) same w.else_ready;
          };
      home = home;
      sides = sides;
    }
      where
        up : (r : ℕ) (x : Rank) → is_among ranks r ≡ true → slice_get c.ranks r ≡ Some x → IsHeldUp c r x
        up r x among there =
            elim (need.held r x (hart r) among there
            (below_one search image ranks zero_harts r x (home r x there).one)) [
              | inl stopped ↦ inl stopped
              | inr more ↦ inr (elim more [
                | inl stuck ↦ inl (record {
                  on = (stuck.patient).on;
                  waits = (held_of search image ranks c r x (within r x there).0 (links_of c) stuck).waits;
                })
                | inr rest ↦ inr rest
              ])
            ]

    pub need_there : (c : Cluster) → IsFit search c → AreQuiet c → NeedBuffers ranks c
    need_there c fit quiet =
        let w = quiet.some in
        record {
          held = λ r y h among there below.
              let same : hart r ≡ h =
              (let none = zero_harts r in let one = (quiet.home r y there).one in omega (arith, none, one, below)) in
              subst (λ k. IsStopped (mode_of y k) ⊎ (IsStuckHart ranks c r y k ⊎ RestsAmong ranks c r k)) same
              (elim (quiet.held r y among there) [
                | inl stopped ↦ inl stopped
                | inr up ↦ inr (elim up [
                  | inl waits ↦ inl (stuck r y there waits)
                  | inr rest ↦ inr rest
                ])
              ]);
          some = record {
            r = w.r;
            rank = w.rank;
            hart = hart w.r;
            among = w.among;
            there = w.there;
            inside = below_one search image ranks zero_harts w.r w.rank (quiet.home w.r w.rank w.there).one;
            rests_there = w.rest;
            else_ready = w.else_ready;
          };
        }
      where
        stuck : (r : ℕ) (y : Rank) → slice_get c.ranks r ≡ Some y → WaitsOn c r y → IsStuckHart ranks c r y (hart r)
        stuck r y there w = record {
          patient = elim (fit.rests r y there w.on) [
            | inl waits ↦ waits.0
            | inr found ↦ absurd (none_found search image ranks c r y (asked y (hart r)) w.waits found)
          ];
          in_vain = vain_of search image ranks c r y (asked y (hart r)) w.waits;
        }
