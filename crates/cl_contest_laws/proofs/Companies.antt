-- Ranks that are stuck together stay so, along turns within the patterns, and are so at the node to which those lead.
use Rattle.std.proofs.Common.{◌≡◌, ◌∙◌, ℕ, ◌<◌, ◌≤◌, refl, sym, ap, subst, arith, ◌⊎◌, inl, inr, zero, suc, Bool, true, false, cond, List, [], ◌∷◌, length, Option, Some, None}
use Rattle.std.specs.Prelude.{◌≢◌, ◌&&◌}
use Rattle.std.specs.List.{list_all, slice_get, slice_set}
use Rattle.std.specs.Option.{option_map}
use Rattle.std.proofs.lemmas.Bool.{and_parts, cases_Bool, cases_eq}
use Rattle.std.proofs.lemmas.List.{get_or_past}
use Rattle.std.proofs.lemmas.Option.{same_Some, slice_get-map}
use Rattle.rv_image_types.specs.declared.images.ImageParts.{ImageParts}
use Rattle.rv_hart.specs.State.{State as Hart}
use Rattle.mp_types.specs.declared.codes.Code.TheVariants as code
use Rattle.mp_types.specs.declared.replies.Reply.{Reply}
use Rattle.mp_types.specs.declared.replies.Reply.TheVariants as reply
use Rattle.mp_types.specs.declared.requests.Request.{Request}
use Rattle.mp_types.specs.declared.requests.Request.TheVariants as request
use Rattle.mp_match.specs.declared.posts.Line.{Line}
use Rattle.mp_match.specs.Board.{collect, is_send_of, line_of}
use Rattle.mp_hub.specs.Hub.{HubView, all_collected, all_got, are_distinct, got_or, is_complete, is_known, is_ready, may_collect, outcome}
use Rattle.mp_transfers.specs.Inits.{is_receiver}
use Rattle.mp_hub.proofs.Histories.{hub_more}
use Rattle.mp_wait_laws.specs.Laws.{SendsAsMember}
use Rattle.mp_wait_laws.specs.Waits.{IsUpTo, OnlyOf, could_pair, sends_over}
use Rattle.mp_wait_laws.proofs.Owned.{AreOwned, owned_after}
use Rattle.mp_wait_laws.proofs.Sets.{get-set_other}
use Rattle.mp_wait_laws.proofs.Waits.{waits_law}
use Rattle.mp_alike_laws.specs.Renaming.{Renaming, line_by, number_by, request_by}
use Rattle.mp_source_laws.specs.Alike.{AlikeHubs, Wild}
use Rattle.mp_source_laws.specs.Laws.{AsksOfLive}
use Rattle.mp_source_laws.proofs.Answers.{answers_law}
use Rattle.mp_source_laws.proofs.Named.{AreSame, IsSame, all_known_same, collects_same, line_named, ready_named, sent_same}
use Rattle.cl_journal.specs.Journal.{calls_of}
use Rattle.cl_journal.specs.declared.entries.Entry.{Entry}
use Rattle.cl_calls.specs.declared.sites.Site.{Site}
use Rattle.cl_state.specs.declared.asking.Answer.{Answer}
use Rattle.cl_state.specs.declared.asking.Answer.TheVariants as answer
use Rattle.cl_state.specs.declared.asking.Ask.{Ask}
use Rattle.cl_state.specs.Asked.{asked, doing, no_hart, part_of}
use Rattle.cl_state.specs.Rank.{Rank}
use Rattle.cl_state.specs.Told.{told}
use Rattle.cl_state_laws.specs.Awake.{awake}
use Rattle.cl_state_laws.specs.Vain.{IsPatient, IsStopped, IsWaiting, mode_of, waits_on}
use Rattle.cl_state_laws.specs.VainLaws.{at_clock}
use Rattle.cl_state_laws.proofs.Vain.{vain_law}
use Rattle.cl_names_laws.specs.Named.{ask_by}
use Rattle.cl_machine.specs.Boxes.{Box, Holds, IsEmpty, box_number, with_made, with_taken}
use Rattle.cl_machine.specs.Cluster.{Cluster}
use Rattle.cl_deadlock_laws.specs.Stuck.{AreStuck, AsksInVain, IsEmptyAt, IsFullAt, IsStuckHart, is_among, is_member}
use Rattle.cl_order_laws.specs.Alike.{AlikeRanks, hub_of}
use Rattle.cl_order_laws.specs.Turns.{IsBox}
use Rattle.cl_order_laws.proofs.Boxes.{empty_before, empty_too}
use Rattle.cl_order_laws.proofs.Each.{set_here, was_there}
use Rattle.cl_order_laws.proofs.Likeness.{each_from}
use Rattle.cl_order_laws.proofs.SureHub.{reply_is}
use Rattle.cl_order_laws.proofs.Vain.{hub_stays}
use Rattle.cl_order_laws.proofs.Walks.{hub_entry}
use Rattle.cl_outcome_laws.specs.Companies.{IsCompany}
use Rattle.cl_reduction_laws.specs.Below.{AskOfLive, AskWithin}
use Rattle.cl_schedule_laws.specs.Machines.{AllWithin as AllInside, GoesOn}
use Rattle.cl_reduction_laws.specs.Clusters.{IsAtBox, Search, State, cluster_machine}
use Rattle.cl_reduction_laws.specs.Patterns.{IsAllowed, by_receiver, by_sender, pattern_of, pattern_of_ask}
use Rattle.cl_rest_laws.specs.Rests.{rests}
use Rattle.cl_reduction_laws.specs.Settled.{AllWithin, AreOnSides, FindsClaim, IsFit, IsThere}
use Rattle.cl_reduction_laws.proofs.Clusters.{cluster_machine_law}
use Rattle.cl_reduction_laws.proofs.Follows.{asks_live, asks_too, pair, pair_from, waits_too}
use Rattle.cl_reduction_laws.proofs.AtBoxes.{AtBox, Leaves, freed, misses, readied, took}
use Rattle.cl_reduction_laws.proofs.Good.{Gone, IsOwn, alone, called, gone, made_within, met}
use Rattle.cl_reduction_laws.proofs.Machine.{taken}
use Rattle.cl_reduction_laws.proofs.Meeting.{holds_or_empty}
use Rattle.cl_reduction_laws.proofs.Places.{number_of}
use Rattle.cl_contest_laws.proofs.Ends.{many_too, stops_too}
use Rattle.cl_contest_laws.proofs.Rest.{Alike, alike_back, claims_or_vain}
use Rattle.cl_contest_laws.proofs.Homes.{AreHome, IsHome, at_link, home_sends, home_told, idle_or_hub, links_of, links_stay, one_link, stopped_or_waiting}

-- ---- who could bring it, in hubs that are alike

module _ (member : ℕ → ℕ → Bool) (among : ℕ → Bool) (wild : Wild) (names : Renaming) (a b : HubView)
    (alike : AlikeHubs wild names a b) (owned : AreOwned a) where
  pair_by : (o : Option Line) (k : ℕ) → could_pair member (option_map (line_by names) o) k ≡ could_pair member o k
  pair_by None k = refl
  pair_by (Some line) k = refl

  only_pair : (n : ℕ) → IsSame names a.board b.board n → OnlyOf among (could_pair member (line_of a.board n))
      → OnlyOf among (could_pair member (line_of b.board (number_by names n)))
  only_pair n same only k could =
      only k (sym (ap (λ o. could_pair member o k) (line_named names a.board b.board alike.board n same)
      ∙ pair_by (line_of a.board n) k) ∙ could)

  -- a call that waits isn't refused
  not_refused : (x : Bool) (o : Reply × HubView) → (cond x o (reply.Code code.BadRequest, a)).0 ≡ reply.NotYet → x ≡ true
  not_refused true o e = refl
  not_refused false o e = absurd (cc)

  same_in : (ns : List ℕ) (i n : ℕ) → AreSame names a.board b.board ns → slice_get ns i ≡ Some n → IsSame names a.board b.board n
  same_in [] i n same here = absurd (cc)
  same_in (m ∷ ns) zero n same here = subst (IsSame names a.board b.board) (same_Some m n here) same.0
  same_in (m ∷ ns) (suc i) n same here = same_in ns i n same.1 here

  up_to_named : (rank : ℕ) (q : Request) → AsksOfLive a.board q → (outcome a rank q).0 ≡ reply.NotYet
      → IsUpTo member among a rank q
      → IsUpTo member among b rank (request_by names q)
  up_to_named rank (request.Collect n) live waits up_to =
      only_pair n (collects_same names a b alike owned rank n
      (not_refused (may_collect a rank n) (got_or a reply.NotYet (collect a.board n)) waits)) up_to
  up_to_named rank (request.Finished n) live waits up_to =
      only_pair n (sent_same names a.board b.board alike.board rank n live
      (not_refused (is_send_of rank (line_of a.board n)) (cond (is_complete a n) reply.Done reply.NotYet, a) waits)) up_to
  up_to_named rank (request.Probe comm source tag) live waits up_to = up_to
  up_to_named rank (request.Claim comm source tag) live waits up_to = up_to
  up_to_named rank (request.All ns) live waits up_to =
      let known = and_parts (are_distinct ns) (list_all (λ n. is_known a rank n) ns)
      (not_refused (are_distinct ns && list_all (λ n. is_known a rank n) ns)
      (cond (list_all (λ n. is_ready a rank n) ns) (all_collected a (all_got rank a.board ns)) (reply.NotYet, a)) waits) in
      let same = all_known_same names a b alike owned rank ns live known.1 in (
        up_to.0,
        number_by names up_to.1,
        slice_get-map (number_by names) ns up_to.0 ∙ ap (option_map (number_by names)) up_to.2,
        ready_named names a b alike owned rank up_to.1 (live up_to.0 up_to.1 up_to.2) ∙ up_to.3,
        only_pair up_to.1 (same_in ns up_to.0 up_to.1 same up_to.2) up_to.4,
      )
  up_to_named rank (request.Cut link) live waits up_to =
      λ k could. up_to k (ap (λ ls. sends_over ls link k) (sym alike.links) ∙ could)
  up_to_named rank _ live waits up_to = absurd up_to

module _ (search : Search) (image : ImageParts) (ranks : List ℕ) where
  abbrev hart : ℕ → ℕ
  hart = search.harts

  -- what is asked isn't there, and could come from these ranks alone
  abbrev pub WaitsAt : HubView → List Box → ℕ → Rank → Ask → Type 0
  WaitsAt h boxes r rank (Ask.Hub q) =
      ((outcome h r q).0 ≡ reply.NotYet) × IsUpTo (is_member rank.site) (is_among ranks) h r q
  WaitsAt h boxes r rank (Ask.Look link part) =
      IsEmptyAt boxes (box_number link part) × OnlyOf (is_among ranks) (sends_over h.links link) × (part < 16)
  WaitsAt h boxes r rank (Ask.Freed link part) =
      IsFullAt boxes (box_number link part) × OnlyOf (is_among ranks) (λ k. is_receiver h.links k link) × (part < 16)
  WaitsAt h boxes r rank _ = ⊥

  pub record IsHeld (h : HubView) (boxes : List Box) (r : ℕ) (rank : Rank) : Type 0 where
    pub patient : IsPatient rank (search.harts r)
    pub waits : WaitsAt h boxes r rank (asked rank (search.harts r))

  abbrev pub IsStill : HubView → List Box → ℕ → Rank → Type 0
  IsStill h boxes r rank = IsStopped (mode_of rank (search.harts r)) ⊎ IsHeld h boxes r rank

  pub record SomeHeld (c : Cluster) : Type 0 where
    pub r : ℕ
    pub rank : Rank
    pub among : is_among ranks r ≡ true
    pub there : slice_get c.ranks r ≡ Some rank
    pub held : IsHeld (hub_of c.journal) c.boxes r rank

  pub record AreStill (c : Cluster) : Type 0 where
    pub still : (r : ℕ) (rank : Rank) → is_among ranks r ≡ true → slice_get c.ranks r ≡ Some rank
        → IsStill (hub_of c.journal) c.boxes r rank
    pub some : SomeHeld c
    pub home : AreHome image c
    pub sides : AreOnSides (hub_of c.journal).links search.patterns

  -- ---- the cases of a turn

  -- a rank of these is left as it was, but for its clock, and so are the hub and the boxes
  record Passed (r : ℕ) (c new : Cluster) (x : Rank) : Type 0 where
    stamp : ℕ
    ranks_are : new.ranks ≡ slice_set c.ranks r (at_clock x stamp)
    hub : hub_of new.journal ≡ hub_of c.journal
    boxes : new.boxes ≡ c.boxes

  own_or_waits : (h : HubView) (boxes : List Box) (r : ℕ) (x : Rank) (a : Ask) → IsOwn a → WaitsAt h boxes r x a → ⊥
  own_or_waits h boxes r x Ask.Plain own waits = waits
  own_or_waits h boxes r x Ask.Local own waits = waits
  own_or_waits h boxes r x Ask.Idle own waits = waits
  own_or_waits h boxes r x _ own waits = own

  pass : (r : ℕ) (c new : Cluster) (x : Rank) → IsStill (hub_of c.journal) c.boxes r x → Gone r (hart r) c new x
      → Passed r c new x
  pass r c new x (inl stopped) (alone stamp own ranks_are journal boxes) = record {
    stamp = stamp;
    ranks_are = ranks_are ∙ ap (slice_set c.ranks r) ((vain_law.stopped) x (hart r) stamp answer.Alone stopped).1;
    hub = ap hub_of journal;
    boxes = boxes;
  }
  pass r c new x (inl stopped) (called p also k) =
      absurd (idle_or_hub p (sym ((vain_law.stopped) x (hart r) 0 answer.Alone stopped).0 ∙ also))
  pass r c new x (inl stopped) (met at box) =
      absurd (subst IsAtBox ((vain_law.stopped) x (hart r) 0 answer.Alone stopped).0 at)
  pass r c new x (inr held) (alone stamp own ranks_are journal boxes) =
      absurd (own_or_waits (hub_of c.journal) c.boxes r x (asked x (hart r)) own held.waits)
  pass r c new x (inr held) (called p also k) =
      let told_so : (outcome (hub_of c.journal) r p).0 ≡ reply.NotYet =
      (subst (WaitsAt (hub_of c.journal) c.boxes r x) also held.waits).0 in
      let entry : Entry =
      record { rank = r; hart = hart r; clock = 0; stamp = 0; request = p; reply = reply.NotYet } in
      record {
        stamp = k.stamp;
        ranks_are = k.ranks ∙ ap (λ z. slice_set c.ranks r (told x (hart r) (answer.Reply z) k.stamp)) told_so
            ∙ ap (slice_set c.ranks r) ((vain_law.not_yet) x (hart r) k.stamp p held.patient also);
        hub = k.hubs ∙ sym (hub_entry c.journal entry) ∙ hub_stays c.journal entry (reply_is c.journal r p ∙ told_so);
        boxes = k.boxes;
      }
  pass r c new x (inr held) (met at box) = by box
    where
      waiting : (a : Ask) → asked x (hart r) ≡ a → WaitsAt (hub_of c.journal) c.boxes r x a
      waiting a asks = subst (WaitsAt (hub_of c.journal) c.boxes r x) asks held.waits

      by : AtBox r (hart r) c new x → Passed r c new x
      by (readied link part bytes box stamp asks is empty l) = absurd (waiting (Ask.Ready link part bytes) asks)
      by (took link part bytes box stamp asks is holds l) =
          absurd (holds_or_empty box bytes holds ((waiting (Ask.Look link part) asks).0 box is))
      by (freed link part box stamp asks is empty l) =
          absurd ((waiting (Ask.Freed link part) asks).0 box is empty)
      by (misses stamp look l) = record {
        stamp = stamp;
        ranks_are = l.ranks ∙ ap (slice_set c.ranks r) ((vain_law.missed) x (hart r) stamp held.patient look);
        hub = ap hub_of l.journal;
        boxes = l.boxes;
      }

  -- a turn of another rank brings them nothing
  waits_others : (c : Cluster) (r s : ℕ) (x : Rank) (q call : Request) → is_among ranks r ≡ true → is_among ranks s ≡ false
      → SendsAsMember (is_member x.site) s call → WaitsAt (hub_of c.journal) c.boxes r x (Ask.Hub q)
      → WaitsAt (outcome (hub_of c.journal) s call).1 c.boxes r x (Ask.Hub q)
  waits_others c r s x q call inside out sends waits =
      subst (λ h. WaitsAt h c.boxes r x (Ask.Hub q)) (hub_more c.journal.links (calls_of c.journal.entries) (s, call))
      ((waits_law.others) (is_member x.site) (is_among ranks) c.journal.links (calls_of c.journal.entries) r s q call
      inside out sends waits)

  -- what is asked at a box isn't there still, where another hub has the same links and the box is as it was
  waits_same : (h k : HubView) (boxes now : List Box) (r : ℕ) (x : Rank) (a : Ask) → k.links ≡ h.links
      → IsAtBox a → slice_get now (number_of a) ≡ slice_get boxes (number_of a) → WaitsAt h boxes r x a
      → WaitsAt k now r x a
  waits_same h k boxes now r x (Ask.Look link part) links at same waits = (
    λ box there. waits.0 box (sym same ∙ there),
    λ n could. waits.1 n (ap (λ ls. sends_over ls link n) (sym links) ∙ could),
    waits.2,
  )
  waits_same h k boxes now r x (Ask.Freed link part) links at same waits = (
    λ box there. waits.0 box (sym same ∙ there),
    λ n could. waits.1 n (ap (λ ls. is_receiver ls n link) (sym links) ∙ could),
    waits.2,
  )
  waits_same h k boxes now r x (Ask.Ready link part bytes) links at same waits = absurd waits
  waits_same h k boxes now r x _ links at same waits = absurd at

  hub_or_box : (h : HubView) (boxes : List Box) (r : ℕ) (x : Rank) (a : Ask) → WaitsAt h boxes r x a
      → ((q : Request) × (a ≡ Ask.Hub q)) ⊎ IsAtBox a
  hub_or_box h boxes r x (Ask.Hub q) waits = inl (q, refl)
  hub_or_box h boxes r x (Ask.Look link part) waits = inr tt
  hub_or_box h boxes r x (Ask.Freed link part) waits = inr tt
  hub_or_box h boxes r x _ waits = absurd waits

  -- another answer than NotYet, or none, to a rank that isn't among them
  pub record Brings (r : ℕ) (c new : Cluster) (x : Rank) : Type 0 where
    pub then : Rank
    pub home : IsHome image r x → IsHome image r then
    pub ranks_are : new.ranks ≡ slice_set c.ranks r then
    pub waits : (s : ℕ) (y : Rank) → is_among ranks s ≡ true → IsHome image r x → IsHome image s y
        → WaitsAt (hub_of c.journal) c.boxes s y (asked y (hart s))
        → WaitsAt (hub_of new.journal) new.boxes s y (asked y (hart s))

  -- who asks at a box that isn't among them doesn't ask at a box that one of them waits for, unless it is in vain
  module _ (r : ℕ) (c : Cluster) (x : Rank) (out : is_among ranks r ≡ false)
      (sides : AreOnSides (hub_of c.journal).links search.patterns)
      (within : IsAllowed search.patterns r (pattern_of x (search.harts r))) where
    no_member : (among : ℕ → Bool) → among r ≡ false → among r ≡ true → ⊥
    no_member among isnt is = (let e = sym isnt ∙ is in absurd (cc))

    abbrev Waits : ℕ → Rank → Ask → Type 0
    Waits s y a = WaitsAt (hub_of c.journal) c.boxes s y a

    allowed : (a : Ask) → asked x (search.harts r) ≡ a
        → IsAllowed search.patterns r (pattern_of_ask (waits_on (doing x.site (part_of x (search.harts r)))) a)
    allowed a asks =
        subst (λ u. IsAllowed search.patterns r (pattern_of_ask (waits_on (doing x.site (part_of x (search.harts r)))) u)) asks within

    filled_apart : (link part : ℕ) (bytes : List ℕ) (box : Box) → asked x (search.harts r) ≡ Ask.Ready link part bytes
        → IsBox c link part box → IsEmpty box → (s : ℕ) (y : Rank) (a : Ask) → Waits s y a → IsAtBox a
        → box_number link part ≢ number_of a
    filled_apart link part bytes box asks is empty s y (Ask.Look l p) waits at same =
        let m = at_link search.patterns r part (by_sender link) (allowed (Ask.Ready link part bytes) asks) in
        let same_link = one_link link part l p m.0 waits.2 same in
        no_member (is_among ranks) out
        (waits.1 r (subst (λ k. sends_over (hub_of c.journal).links k r ≡ true) same_link (sides.senders r link m.1)))
    filled_apart link part bytes box asks is empty s y (Ask.Freed l p) waits at same =
        waits.0 box (ap (slice_get c.boxes) (sym same) ∙ is) empty
    filled_apart link part bytes box asks is empty s y (Ask.Ready l p bs) waits at same = waits
    filled_apart link part bytes box asks is empty s y _ waits at same = at

    emptied_apart : (link part : ℕ) (bytes : List ℕ) (box : Box) → asked x (search.harts r) ≡ Ask.Look link part
        → IsBox c link part box → Holds box bytes → (s : ℕ) (y : Rank) (a : Ask) → Waits s y a → IsAtBox a
        → box_number link part ≢ number_of a
    emptied_apart link part bytes box asks is holds s y (Ask.Freed l p) waits at same =
        let m = at_link search.patterns r part (by_receiver link) (allowed (Ask.Look link part) asks) in
        let same_link = one_link link part l p m.0 waits.2 same in
        no_member (is_among ranks) out
        (waits.1 r (subst (λ k. is_receiver (hub_of c.journal).links r k ≡ true) same_link (sides.receivers r link m.1)))
    emptied_apart link part bytes box asks is holds s y (Ask.Look l p) waits at same =
        holds_or_empty box bytes holds (waits.0 box (ap (slice_get c.boxes) (sym same) ∙ is))
    emptied_apart link part bytes box asks is holds s y (Ask.Ready l p bs) waits at same = waits
    emptied_apart link part bytes box asks is holds s y _ waits at same = at

  pub brings : (r : ℕ) (c new : Cluster) (x : Rank) → is_among ranks r ≡ false
      → AreOnSides (hub_of c.journal).links search.patterns
      → IsAllowed search.patterns r (pattern_of x (search.harts r)) → Gone r (hart r) c new x → Brings r c new x
  brings r c new x out sides within (alone stamp own ranks_are journal boxes) = record {
    then = told x (hart r) answer.Alone stamp;
    home = home_told image r (hart r) x answer.Alone stamp;
    ranks_are = ranks_are;
    waits = λ s y inside mine its waits.
        subst (λ j. WaitsAt (hub_of j) new.boxes s y (asked y (hart s))) (sym journal)
        (subst (λ bs. WaitsAt (hub_of c.journal) bs s y (asked y (hart s))) (sym boxes) waits);
  }
  brings r c new x out sides within (called p also k) = record {
    then = told x (hart r) (answer.Reply (outcome (hub_of c.journal) r p).0) k.stamp;
    home = home_told image r (hart r) x (answer.Reply (outcome (hub_of c.journal) r p).0) k.stamp;
    ranks_are = k.ranks;
    waits = λ s y inside mine its waits.
        subst (λ h. WaitsAt h new.boxes s y (asked y (hart s))) (sym k.hubs)
        (subst (λ bs. WaitsAt (outcome (hub_of c.journal) r p).1 bs s y (asked y (hart s))) (sym k.boxes)
        (by s y (asked y (hart s)) inside mine its waits));
  }
    where
      links : (outcome (hub_of c.journal) r p).1.links ≡ (hub_of c.journal).links
      links = sym (ap (λ (h : HubView). h.links) k.hubs) ∙ links_stay r (hart r) c new x (called p also k)

      by : (s : ℕ) (y : Rank) (a : Ask) → is_among ranks s ≡ true → IsHome image r x → IsHome image s y
          → WaitsAt (hub_of c.journal) c.boxes s y a
          → WaitsAt (outcome (hub_of c.journal) r p).1 c.boxes s y a
      by s y (Ask.Hub q) inside mine its waits =
          waits_others c s r y q p inside out (home_sends image r s (hart r) x y p mine its also) waits
      by s y (Ask.Look link part) inside mine its waits =
          waits_same (hub_of c.journal) (outcome (hub_of c.journal) r p).1 c.boxes c.boxes s y (Ask.Look link part) links tt refl waits
      by s y (Ask.Freed link part) inside mine its waits =
          waits_same (hub_of c.journal) (outcome (hub_of c.journal) r p).1 c.boxes c.boxes s y (Ask.Freed link part) links tt refl waits
      by s y _ inside mine its waits = absurd waits
  brings r c new x out sides within (met at box) = by box
    where
      -- the boxes but for one are as they were
      left : (a : Answer) (stamp : ℕ) (now : List Box) → Leaves r (hart r) c new x a stamp now
          → ((s : ℕ) (y : Rank) (q : Ask) → WaitsAt (hub_of c.journal) c.boxes s y q → IsAtBox q
          → slice_get now (number_of q) ≡ slice_get c.boxes (number_of q))
          → Brings r c new x
      left a stamp now l keeps = record {
        then = told x (hart r) a stamp;
        home = home_told image r (hart r) x a stamp;
        ranks_are = l.ranks;
        waits = λ s y inside mine its waits.
            subst (λ j. WaitsAt (hub_of j) new.boxes s y (asked y (hart s))) (sym l.journal)
            (subst (λ bs. WaitsAt (hub_of c.journal) bs s y (asked y (hart s))) (sym l.boxes)
            (go s y (asked y (hart s)) waits));
      }
        where
          go : (s : ℕ) (y : Rank) (q : Ask) → WaitsAt (hub_of c.journal) c.boxes s y q
              → WaitsAt (hub_of c.journal) now s y q
          go s y (Ask.Hub q) waits = waits
          go s y (Ask.Look link part) waits =
              waits_same (hub_of c.journal) (hub_of c.journal) c.boxes now s y (Ask.Look link part) refl tt
              (keeps s y (Ask.Look link part) waits tt) waits
          go s y (Ask.Freed link part) waits =
              waits_same (hub_of c.journal) (hub_of c.journal) c.boxes now s y (Ask.Freed link part) refl tt
              (keeps s y (Ask.Freed link part) waits tt) waits
          go s y _ waits = absurd waits

      by : AtBox r (hart r) c new x → Brings r c new x
      by (readied link part bytes box stamp asks is empty l) =
          left answer.Alone stamp _ l
          (λ s y q waits at_q. get-set_other c.boxes (box_number link part) (number_of q) (with_made box stamp bytes)
          (filled_apart r c x out sides within link part bytes box asks is empty s y q waits at_q))
      by (took link part bytes box stamp asks is holds l) =
          left (answer.Taken bytes) stamp _ l
          (λ s y q waits at_q. get-set_other c.boxes (box_number link part) (number_of q) (with_taken box stamp)
          (emptied_apart r c x out sides within link part bytes box asks is holds s y q waits at_q))
      by (freed link part box stamp asks is empty l) = left answer.Freed stamp c.boxes l (λ s y q waits at_q. refl)
      by (misses stamp look l) = left answer.Missed stamp c.boxes l (λ s y q waits at_q. refl)

  -- ---- what stands behind a turn

  waits_clock : (h : HubView) (boxes : List Box) (r : ℕ) (x : Rank) (clock : ℕ) (a : Ask) → WaitsAt h boxes r x a
      → WaitsAt h boxes r (at_clock x clock) a
  waits_clock h boxes r x clock (Ask.Hub q) waits = waits
  waits_clock h boxes r x clock (Ask.Look link part) waits = waits
  waits_clock h boxes r x clock (Ask.Freed link part) waits = waits
  waits_clock h boxes r x clock _ waits = absurd waits

  held_clock : (h : HubView) (boxes : List Box) (r : ℕ) (x : Rank) (clock : ℕ) → IsHeld h boxes r x
      → IsHeld h boxes r (at_clock x clock)
  held_clock h boxes r x clock held = record {
    patient = record { waits = (held.patient).waits; on = (held.patient).on };
    waits = subst (WaitsAt h boxes r (at_clock x clock)) (sym ((vain_law.timeless) x (hart r) clock))
        (waits_clock h boxes r x clock (asked x (hart r)) held.waits);
  }

  still_clock : (h : HubView) (boxes : List Box) (r : ℕ) (x : Rank) (clock : ℕ) → IsStill h boxes r x
      → IsStill h boxes r (at_clock x clock)
  still_clock h boxes r x clock (inl stopped) = inl stopped
  still_clock h boxes r x clock (inr held) = inr (held_clock h boxes r x clock held)

  -- the same hub and the same boxes
  still_at : (c new : Cluster) → hub_of new.journal ≡ hub_of c.journal → new.boxes ≡ c.boxes → (r : ℕ) (x : Rank)
      → IsStill (hub_of c.journal) c.boxes r x
      → IsStill (hub_of new.journal) new.boxes r x
  still_at c new hub boxes r x still =
      subst (λ h. IsStill h new.boxes r x) (sym hub) (subst (λ bs. IsStill (hub_of c.journal) bs r x) (sym boxes) still)

  held_at : (c new : Cluster) → hub_of new.journal ≡ hub_of c.journal → new.boxes ≡ c.boxes → (r : ℕ) (x : Rank)
      → IsHeld (hub_of c.journal) c.boxes r x
      → IsHeld (hub_of new.journal) new.boxes r x
  held_at c new hub boxes r x held =
      subst (λ h. IsHeld h new.boxes r x) (sym hub) (subst (λ bs. IsHeld (hub_of c.journal) bs r x) (sym boxes) held)

  module _ (r : ℕ) (c new : Cluster) (x then : Rank) (here : slice_get c.ranks r ≡ Some x)
      (set : new.ranks ≡ slice_set c.ranks r then) where
    -- what holds of the rank that was told, and of each other one, holds of all
    each_rank : (P : ℕ → Rank → Type 0) → P r then
        → ((s : ℕ) (y : Rank) → r ≢ s → slice_get c.ranks s ≡ Some y → P s y)
        → (s : ℕ) (y : Rank) → slice_get new.ranks s ≡ Some y → P s y
    each_rank P mine others s y there =
        let at : slice_get (slice_set c.ranks r then) s ≡ Some y = sym (ap (λ xs. slice_get xs s) set) ∙ there in
        elim (cases_eq r s) [
          | inl same ↦
              let w = was_there c.ranks r then y
              (subst (λ k. slice_get (slice_set c.ranks r then) k ≡ Some y) (sym same) at) in
              subst (λ k. P k y) same (subst (P r) w.0 mine)
          | inr apart ↦ others s y apart (sym (get-set_other c.ranks r s then apart) ∙ at)
        ]

    told_there : slice_get new.ranks r ≡ Some then
    told_there = ap (λ xs. slice_get xs r) set ∙ set_here c.ranks r then x here

    other_there : (s : ℕ) (y : Rank) → r ≢ s → slice_get c.ranks s ≡ Some y → slice_get new.ranks s ≡ Some y
    other_there s y apart there = ap (λ xs. slice_get xs s) set ∙ get-set_other c.ranks r s then apart ∙ there

    pub home_all : AreHome image c → IsHome image r then → AreHome image new
    home_all home mine = each_rank (IsHome image) mine (λ s y apart there. home s y there)

  home_clock : (r : ℕ) (x : Rank) (clock : ℕ) → IsHome image r x → IsHome image r (at_clock x clock)
  home_clock r x clock home = record { site = home.site; inside = home.inside; one = home.one }

  -- of one of them
  passed_still : (r : ℕ) (c new : Cluster) (x : Rank) → slice_get c.ranks r ≡ Some x → is_among ranks r ≡ true → AreStill c
      → Passed r c new x → AreStill new
  passed_still r c new x here inside old p =
      let then = at_clock x p.stamp in
      let set = p.ranks_are in
      let w = old.some in
      record {
        still = λ s y among there.
            each_rank r c new x then here set (λ k z. is_among ranks k ≡ true → IsStill (hub_of new.journal) new.boxes k z)
            (λ member. still_at c new p.hub p.boxes r then
            (still_clock (hub_of c.journal) c.boxes r x p.stamp (old.still r x inside here)))
            (λ k z apart at member. still_at c new p.hub p.boxes k z (old.still k z member at))
            s y there among;
        some = elim (cases_eq r w.r) [
          | inl same ↦
              let is : w.rank ≡ x =
              same_Some w.rank x (sym w.there ∙ subst (λ k. slice_get c.ranks k ≡ Some x) same here) in
              record {
                r = r;
                rank = then;
                among = inside;
                there = told_there r c new x then here set;
                held = held_at c new p.hub p.boxes r then
                    (held_clock (hub_of c.journal) c.boxes r x p.stamp
                    (subst (λ z. IsHeld (hub_of c.journal) c.boxes r z) is
                    (subst (λ k. IsHeld (hub_of c.journal) c.boxes k w.rank) (sym same) w.held)));
              }
          | inr apart ↦ record {
            r = w.r;
            rank = w.rank;
            among = w.among;
            there = other_there r c new x then here set w.r w.rank apart w.there;
            held = held_at c new p.hub p.boxes w.r w.rank w.held;
          }
        ];
        home = home_all r c new x then here set old.home (home_clock r x p.stamp (old.home r x here));
        sides = subst (λ (h : HubView). AreOnSides h.links search.patterns) (sym p.hub) old.sides;
      }

  pub out_of : (r s : ℕ) → is_among ranks r ≡ false → is_among ranks s ≡ true → r ≢ s
  out_of r s out inside same = (let also = subst (λ k. is_among ranks k ≡ false) same out in absurd (cc))

  held_by : (r : ℕ) (c new : Cluster) (x : Rank) → Brings r c new x → (s : ℕ) (y : Rank) → is_among ranks s ≡ true
      → IsHome image r x → IsHome image s y → IsHeld (hub_of c.journal) c.boxes s y
      → IsHeld (hub_of new.journal) new.boxes s y
  held_by r c new x b s y among mine its held =
      record { patient = held.patient; waits = b.waits s y among mine its held.waits }

  -- of another rank
  brings_still : (r : ℕ) (c new : Cluster) (x : Rank) → slice_get c.ranks r ≡ Some x → is_among ranks r ≡ false → AreStill c
      → (hub_of new.journal).links ≡ (hub_of c.journal).links → Brings r c new x → AreStill new
  brings_still r c new x here out old links b =
      let set = b.ranks_are in
      let mine = old.home r x here in
      let w = old.some in
      record {
        still = λ s y among there.
            let at = sym (get-set_other c.ranks r s b.then (out_of r s out among)) ∙ sym (ap (λ xs. slice_get xs s) set)
            ∙ there in
            elim (old.still s y among at) [
              | inl stopped ↦ inl stopped
              | inr held ↦ inr (held_by r c new x b s y among mine (old.home s y at) held)
            ];
        some = record {
          r = w.r;
          rank = w.rank;
          among = w.among;
          there = other_there r c new x b.then here set w.r w.rank (out_of r w.r out w.among) w.there;
          held = held_by r c new x b w.r w.rank w.among mine (old.home w.r w.rank w.there) w.held;
        };
        home = home_all r c new x b.then here set old.home (b.home mine);
        sides = subst (λ ls. AreOnSides ls search.patterns) (sym links) old.sides;
      }

  still_turn : (r : ℕ) (c new : Cluster) (x : Rank) → slice_get c.ranks r ≡ Some x
      → IsAllowed search.patterns r (pattern_of x (search.harts r)) → AreStill c → Gone r (hart r) c new x
      → AreStill new
  still_turn r c new x here within old went = elim (cases_Bool (is_among ranks r)) [
    | inl inside ↦
        passed_still r c new x here inside old (pass r c new x (old.still r x inside here) went)
    | inr out ↦ brings_still r c new x here out old (links_stay r (hart r) c new x went)
        (brings r c new x out old.sides within went)
  ]

  pub still_walk : (rs : List ℕ) (a b : State search) → (walk : GoesOn (cluster_machine search) rs a b)
      → AllInside (cluster_machine search) rs a b walk → AreStill a.cluster
      → AreStill b.cluster
  still_walk [] a b walk inside still = subst (λ (s : State search). AreStill s.cluster) (sym walk) still
  still_walk (r ∷ rs) a b walk inside still =
      let mid = (walk.0).cluster in
      let t = taken r (hart r) a.cluster mid walk.1 in
      still_walk rs walk.0 b walk.2 inside.1
      (still_turn r a.cluster mid t.rank t.there (inside.0 t.rank t.there).0 still
      (gone r (hart r) a.cluster mid t.rank t.there
      (made_within search.patterns r (hart r) t.rank (inside.0 t.rank t.there).0) walk.1))

  -- ---- what could come from them alone

  -- by the rule of ranks that are stuck too
  pub vain_of : (c : Cluster) (r : ℕ) (x : Rank) (ask : Ask) → WaitsAt (hub_of c.journal) c.boxes r x ask
      → AsksInVain ranks c r x.site ask
  vain_of c r x (Ask.Hub q) waits = waits
  vain_of c r x (Ask.Look link part) waits =
      (waits.0, λ k could. waits.1 k (ap (λ ls. sends_over ls link k) (links_of c) ∙ could))
  vain_of c r x (Ask.Freed link part) waits =
      (waits.0, λ k could. waits.1 k (ap (λ ls. is_receiver ls k link) (links_of c) ∙ could))
  vain_of c r x _ waits = absurd waits

  -- it is no claim that finds its message
  pub claims_none : (c : Cluster) (r : ℕ) (x : Rank) (ask : Ask) → WaitsAt (hub_of c.journal) c.boxes r x ask
      → FindsClaim c r ask → ⊥
  claims_none c r x (Ask.Hub q) waits found = claims_or_vain c r q (reply_is c.journal r q ∙ waits.0) found
  claims_none c r x (Ask.Look link part) waits found = found
  claims_none c r x (Ask.Freed link part) waits found = found
  claims_none c r x _ waits found = absurd waits

  -- nor is it there
  there_none : (c : Cluster) (r : ℕ) (x : Rank) (ask : Ask) → WaitsAt (hub_of c.journal) c.boxes r x ask → IsThere c r ask → ⊥
  there_none c r x (Ask.Hub q) waits there = there (reply_is c.journal r q ∙ waits.0)
  there_none c r x (Ask.Look link part) waits there = there
  there_none c r x (Ask.Freed link part) waits there = there
  there_none c r x _ waits there = waits

  pub none_found : (c : Cluster) (r : ℕ) (x : Rank) (ask : Ask) → WaitsAt (hub_of c.journal) c.boxes r x ask
      → FindsClaim c r ask ⊎ ((rests c r (hart r) ≡ true) × IsThere c r ask) → ⊥
  none_found c r x ask waits (inl found) = claims_none c r x ask waits found
  none_found c r x ask waits (inr rest) = there_none c r x ask waits rest.1

  -- and so it is in a cluster that is alike
  pub waits_alike : (a b : State search) (alike : Alike search a b) (r : ℕ) (x y : Rank) (ask : Ask) → y.site ≡ x.site
      → AskWithin search.wild r ask → AskOfLive a.cluster ask → WaitsAt (hub_of a.cluster.journal) a.cluster.boxes r x ask
      → WaitsAt (hub_of b.cluster.journal) b.cluster.boxes r y (ask_by alike.0 ask)
  waits_alike a b alike r x y (Ask.Hub q) site may live waits = (
    (answers_law.reply) search.wild alike.0 a.cluster.journal.links b.cluster.journal.links
        (calls_of a.cluster.journal.entries) (calls_of b.cluster.journal.entries) r q may live (alike.1).hubs
        ∙ waits.0,
    subst (λ (z : Site). IsUpTo (is_member z) (is_among ranks) (hub_of b.cluster.journal) r (request_by alike.0 q))
        (sym site)
        (up_to_named (is_member x.site) (is_among ranks) search.wild alike.0 (hub_of a.cluster.journal)
        (hub_of b.cluster.journal) (alike.1).hubs
        (owned_after a.cluster.journal.links (calls_of a.cluster.journal.entries)) r q live waits.0 waits.1),
  )
  waits_alike a b alike r x y (Ask.Look link part) site may live waits = (
    λ box there. (let f = each_from (alike.1).boxes (box_number link part) box there in
        empty_too f.0 box f.2 (waits.0 f.0 f.1)),
    λ k could. waits.1 k (ap (λ ls. sends_over ls link k) (sym (alike.1).hubs.links) ∙ could),
    waits.2,
  )
  waits_alike a b alike r x y (Ask.Freed link part) site may live waits = (
    λ box there empty. (let f = each_from (alike.1).boxes (box_number link part) box there in
        waits.0 f.0 f.1 (empty_before f.0 box f.2 empty)),
    λ k could. waits.1 k (ap (λ ls. is_receiver ls k link) (sym (alike.1).hubs.links) ∙ could),
    waits.2,
  )
  waits_alike a b alike r x y _ site may live waits = absurd waits

  -- ---- a company is still

  pub held_of : (c : Cluster) (r : ℕ) (x : Rank) → IsAllowed search.patterns r (pattern_of x (search.harts r))
      → (hub_of c.journal).links ≡ c.journal.links → IsStuckHart ranks c r x (hart r)
      → IsHeld (hub_of c.journal) c.boxes r x
  held_of c r x within links stuck =
      record { patient = stuck.patient; waits = go (asked x (hart r)) within stuck.in_vain }
    where
      go : (q : Ask)
          → IsAllowed search.patterns r (pattern_of_ask (waits_on (doing x.site (part_of x (search.harts r)))) q)
          → AsksInVain ranks c r x.site q
          → WaitsAt (hub_of c.journal) c.boxes r x q
      go (Ask.Hub q) is in_vain = (in_vain.0, in_vain.1)
      go (Ask.Look link part) is in_vain = (
        in_vain.0,
        λ k could. in_vain.1 k (ap (λ ls. sends_over ls link k) (sym links) ∙ could),
        (at_link search.patterns r part (by_receiver link) is).0,
      )
      go (Ask.Freed link part) is in_vain = (
        in_vain.0,
        λ k could. in_vain.1 k (ap (λ ls. is_receiver ls k link) (sym links) ∙ could),
        (at_link search.patterns r part (by_sender link) is).0,
      )
      go Ask.Held is in_vain = absurd is
      go Ask.Plain is in_vain = absurd in_vain
      go Ask.Local is in_vain = absurd in_vain
      go Ask.Idle is in_vain = absurd in_vain
      go (Ask.Ready link part bytes) is in_vain = absurd in_vain

  module _ (zero_harts : (r : ℕ) → search.harts r ≡ 0) where
    pub below_one : (r : ℕ) (x : Rank) → length x.harts ≡ 1 → hart r < length x.harts
    below_one r x one = (let none = zero_harts r in omega (arith, none, one))

    -- whichever hart of a rank waits is its one
    waits_one : (r h : ℕ) (x : Rank) → length x.harts ≡ 1 → IsWaiting (mode_of x h) → IsWaiting (mode_of x (hart r))
    waits_one r h x one waits = elim (cases_eq h (hart r)) [
      | inl same ↦ subst (λ k. IsWaiting (mode_of x k)) same waits
      | inr apart ↦
          let none = zero_harts r in
          let past : length x.harts ≤ h = omega (arith, none, one, apart) in
          absurd (subst (λ (s : Hart). IsWaiting s.mode) (get_or_past x.harts h no_hart past) waits)
    ]

    pub company_still : (c : Cluster) → AllWithin search c → AreHome image c → (hub_of c.journal).links ≡ c.journal.links
        → AreOnSides (hub_of c.journal).links search.patterns → IsCompany ranks c → AreStill c
    company_still c within home links sides company = record {
      still = λ r x among there. still_of r x among there;
      some =
          let w = company.waits in
          let waits = waits_one w.r w.hart w.rank (home w.r w.rank w.there).one w.waits in
          record {
            r = w.r;
            rank = w.rank;
            among = w.among;
            there = w.there;
            held = elim (still_of w.r w.rank w.among w.there) [
              | inl stopped ↦ absurd (stopped_or_waiting (mode_of w.rank (hart w.r)) stopped waits)
              | inr held ↦ held
            ];
          };
      home = home;
      sides = sides;
    }
      where
        still_of : (r : ℕ) (x : Rank) → is_among ranks r ≡ true → slice_get c.ranks r ≡ Some x
            → IsStill (hub_of c.journal) c.boxes r x
        still_of r x among there =
            elim (company.stuck r x (hart r) among there (below_one r x (home r x there).one)) [
              | inl stopped ↦ inl stopped
              | inr stuck ↦
                  inr (held_of c r x (within r x there).0 links stuck)
            ]

    -- ---- and a company at the node that is alike

    module _ (a node : State search) (alike : Alike search a node) (fit : IsFit search node.cluster)
        (still : AreStill a.cluster) where
      held_too : (r : ℕ) (x y : Rank) → slice_get a.cluster.ranks r ≡ Some x → slice_get node.cluster.ranks r ≡ Some y
          → AlikeRanks alike.0 (awake x) (awake y) → IsHeld (hub_of a.cluster.journal) a.cluster.boxes r x
          → IsStuckHart ranks node.cluster r y (hart r)
      held_too r x y here there both held =
          let sx = (a.good).stands r x here in
          let sy = (node.good).stands r y there in
          let on = waits_too alike.0 (hart r) x y sx sy both ∙ (held.patient).on in
          let asks = asks_too alike.0 (hart r) x y sx sy both in
          let within = (cluster_machine_law search).within r node a (alike_back search a node alike) (fit.within r) in
          let may = (within x here).1 in
          let live = asks_live search a r (hart r) x here in
          let site : y.site ≡ x.site = ap (λ (z : Rank). z.site) both.1 in
          let waits = subst (WaitsAt (hub_of node.cluster.journal) node.cluster.boxes r y) (sym asks)
          (waits_alike a node alike r x y (asked x (hart r)) site may live held.waits) in
          record {
            patient = elim (fit.rests r y there on) [
              | inl patient ↦ patient.0
              | inr found ↦ absurd (none_found node.cluster r y (asked y (hart r)) waits found)
            ];
            in_vain = vain_of node.cluster r y (asked y (hart r)) waits;
          }

      stuck_too : AreStuck ranks node.cluster
      stuck_too r y h among there below =
          let f = pair_from search r a.cluster node.cluster alike y there in
          let one = (still.home r f.0 f.1).one in
          let many = many_too alike.0 f.0 y f.2 in
          let none = zero_harts r in
          let same : hart r ≡ h = omega (arith, none, one, many, below) in
          subst (λ k. IsStopped (mode_of y k) ⊎ IsStuckHart ranks node.cluster r y k) same
          (elim (still.still r f.0 among f.1) [
            | inl stopped ↦ inl (stops_too alike.0 f.0 y f.2 (hart r) stopped)
            | inr held ↦ inr (held_too r f.0 y f.1 there f.2 held)
          ])

      pub company_too : IsCompany ranks node.cluster
      company_too =
          let w = still.some in
          let p = pair search w.r a.cluster node.cluster alike w.rank w.there in
          let stuck = held_too w.r w.rank p.other w.there p.there p.alike w.held in
          record {
            stuck = stuck_too;
            waits = record {
              r = w.r;
              rank = p.other;
              hart = hart w.r;
              among = w.among;
              there = p.there;
              waits = (stuck.patient).waits;
            };
          }
