-- Clusters are a machine whose ranks' turns may change places.
use Rattle.std.proofs.Common.{◌≡◌, ◌∙◌, ℕ, zero, suc, ◌+◌, ◌<◌, refl, sym, ap, subst, arith, ◌⊎◌, inl, inr, Bool, true, false, List, [], ◌∷◌, length, Option, Some, None}
use Rattle.std.specs.Prelude.{◌≢◌, map}
use Rattle.std.specs.List.{slice_get, slice_set}
use Rattle.std.proofs.lemmas.Option.{same_Some}
use Rattle.mp_types.specs.declared.replies.Reply.TheVariants as reply
use Rattle.mp_types.specs.declared.requests.Request.{Request}
use Rattle.mp_types.specs.declared.requests.Request.TheVariants as request
use Rattle.mp_hub.specs.Hub.{HubView, outcome}
use Rattle.mp_wait_laws.proofs.Fresh.{Laid}
use Rattle.mp_wait_laws.proofs.Waits.{laid_after}
use Rattle.mp_alike_laws.specs.Renaming.{no_renaming}
use Rattle.mp_source_laws.specs.Alike.{Wild}
use Rattle.mp_clash_laws.specs.Exchanges.{BringsNothing, IsLook, IsPosting, MayExchange, NoRace, NoSync}
use Rattle.cl_journal.specs.Journal.{calls_of}
use Rattle.cl_journal.specs.declared.entries.Entry.{Entry}
use Rattle.cl_state.specs.declared.asking.Answer.TheVariants as answer
use Rattle.cl_state.specs.declared.asking.Ask.{Ask}
use Rattle.cl_state.specs.Asked.{asked, doing, part_of}
use Rattle.cl_state.specs.Rank.{Rank}
use Rattle.cl_state.specs.Told.{told}
use Rattle.cl_state_laws.specs.Awake.{awake}
use Rattle.cl_state_laws.specs.Laws.{IsLook as LooksAtBox}
use Rattle.cl_state_laws.specs.Vain.{IsStopped, mode_of, waits_on}
use Rattle.cl_state_laws.specs.VainLaws.{at_clock}
use Rattle.cl_state_laws.proofs.Vain.{vain_law as rank_vain}
use Rattle.cl_state_laws.proofs.Wakes.{wake_law}
use Rattle.cl_machine.specs.Cluster.{Cluster}
use Rattle.cl_machine.specs.Journal.{reply_in, with_entry}
use Rattle.cl_order_laws.specs.Alike.{AlikeRanks, AreEach, hub_of}
use Rattle.cl_order_laws.specs.Closed.{IsInVain, none_had, one_more}
use Rattle.cl_order_laws.specs.Orders.{is_miss}
use Rattle.cl_order_laws.specs.Sure.{IsSure}
use Rattle.cl_order_laws.specs.SureAsks.{IsBusy, IsReady, IsSureAsk}
use Rattle.cl_order_laws.proofs.Each.{each_set}
use Rattle.cl_order_laws.proofs.Likeness.{alike_itself, rank_itself}
use Rattle.cl_order_laws.proofs.Ready.{ready_from, same_lines}
use Rattle.cl_order_laws.proofs.SureAlone.{IsLive, has_hart, sure_alone_law}
use Rattle.cl_order_laws.proofs.SureHub.{reply_is, sure_hub_law}
use Rattle.cl_order_laws.proofs.Vain.{hub_stays}
use Rattle.cl_order_laws.proofs.Walks.{hub_entry}
use Rattle.cl_rest_laws.proofs.Resting.{rest_law}
use Rattle.cl_first_laws.specs.Below.{AreAlike}
use Rattle.cl_first_laws.proofs.Below.{likeness_law}
use Rattle.cl_first_laws.specs.Laws.{Turn}
use Rattle.cl_first_laws.proofs.Exchanges.{Called, call_of}
use Rattle.cl_schedule_laws.specs.Machines.{IsExchanged, IsMachine, Ranks, Takes}
use Rattle.cl_reduction_laws.specs.Patterns.{InitMayPass, IsAllowed, IsInitialisation, MayMeet, MayPass, Pattern, pattern_of, pattern_of_ask, pattern_of_request}
use Rattle.cl_reduction_laws.specs.Clusters.{AreSure, CanGo, FindsBox, Found, GoesFirst, IsAtBox, IsReadyPoll, IsStill, IsWithin, Search, State, alone as busy, awake_cluster, cluster_machine, collects, initialises, lone, meets, posts, posts_of, weight_of}
use Rattle.cl_reduction_laws.specs.Laws.{ClusterMachineLaw}
use Rattle.cl_reduction_laws.proofs.Awake.{map_set, mapped}
use Rattle.cl_reduction_laws.proofs.AtBoxes.{AtBox, Leaves, freed, miss_leaves, misses, missed_awake, readied, took}
use Rattle.cl_reduction_laws.proofs.Good.{Gone, IsMade, IsOnly, IsOwn, alone, at_start, called, goes_of, gone, good_after, grows_by, made_within, met, plans_of}
use Rattle.cl_reduction_laws.proofs.Machine.{IsSame, each_itself, Taken, same_alike, taken, turn_by}
use Rattle.cl_reduction_laws.proofs.Follows.{follows, weight_too, within_too}
use Rattle.cl_reduction_laws.proofs.First.{IsTold, is_not_yet, is_there, is_told, no_collect, no_finish, no_probe, no_several, not_yet, of_cut, of_other, of_ready, of_refused, of_transfers, of_two, of_vain, refused}
use Rattle.cl_reduction_laws.proofs.Transfers.{IsOther, posts_other}
use Rattle.cl_reduction_laws.proofs.Meeting.{IsFilling, box_live, filling_visits, finds_at_box, finds_kept, holds_or_empty, kind_of, only_beside, other_box, turn_found, visit_kind}
use Rattle.cl_reduction_laws.proofs.Places.{IsBeside, IsVisit, beside, in_place, number_of, put_other}
use Rattle.cl_reduction_laws.proofs.Exchanged.{by_exchange, by_own, by_posts, by_sure, kept_rank, no_miss, past_beside, past_other, past_place, swapped_sure}

-- ---- what may pass, of the very calls

race_of : (wild : Wild) (r : ℕ) (q : Request) (s : ℕ) (sync : Bool) (comm dest tag : ℕ) (bytes : List ℕ) → IsPosting q
    → MayPass wild r q s (pattern_of_request true (request.Send sync comm dest tag bytes))
    → NoRace wild q (request.Send sync comm dest tag bytes) × NoSync r q s (request.Send sync comm dest tag bytes)
race_of wild r (request.Send true k d t bs) s sync comm dest tag bytes is may = (may.0, tt)
race_of wild r (request.Send false k d t bs) s sync comm dest tag bytes is may = (may.0, tt)
race_of wild r (request.Recv now k source t) s true comm dest tag bytes is may = (tt, may.1)
race_of wild r (request.Recv now k source t) s false comm dest tag bytes is may = (tt, tt)
race_of wild r _ s sync comm dest tag bytes is may = absurd is

sync_of : (wild : Wild) (r : ℕ) (q : Request) (s : ℕ) (now : Bool) (comm : ℕ) (source tag : Option ℕ) → IsPosting q
    → NoSync r q s (request.Recv false 0 None None)
    → NoRace wild q (request.Recv now comm source tag) × NoSync r q s (request.Recv now comm source tag)
sync_of wild r (request.Send true k d t bs) s now comm source tag is may = (tt, may)
sync_of wild r (request.Send false k d t bs) s now comm source tag is may = (tt, tt)
sync_of wild r (request.Recv one k from t) s now comm source tag is may = (tt, tt)
sync_of wild r _ s now comm source tag is may = absurd is

-- ---- a turn in vain

pub set_kept : {A : Type 0} (xs : List A) (i : ℕ) (x : A) → slice_get xs i ≡ Some x → slice_set xs i x ≡ xs
set_kept [] i x h = refl
set_kept (y ∷ xs) zero x h = ap (λ z. z ∷ xs) (sym (same_Some y x h))
set_kept (y ∷ xs) (suc i) x h = ap (λ l. y ∷ l) (set_kept xs i x h)

-- ---- what goes first

pub own_or_vain : (c : Cluster) (r : ℕ) (q : Ask) → IsOwn q → IsInVain c r q → ⊥
own_or_vain c r Ask.Plain own in_vain = in_vain
own_or_vain c r Ask.Local own in_vain = in_vain
own_or_vain c r Ask.Idle own in_vain = in_vain
own_or_vain c r _ own in_vain = own

busy_alive : (a : Ask) → IsBusy a → IsLive a
busy_alive Ask.Plain is = tt
busy_alive Ask.Local is = tt
busy_alive _ is = absurd is

pub busy_only : (a : Ask) → IsBusy a → IsOnly a
busy_only Ask.Plain is = tt
busy_only Ask.Local is = tt
busy_only _ is = absurd is

can_live : (a : Ask) → CanGo a → IsLive a
can_live Ask.Plain is = tt
can_live Ask.Local is = tt
can_live (Ask.Hub q) is = tt
can_live _ is = absurd is

pub can_only : (a : Ask) → CanGo a → IsOnly a
can_only Ask.Plain is = tt
can_only Ask.Local is = tt
can_only (Ask.Hub q) is = tt
can_only _ is = absurd is

module _ (search : Search) where
  abbrev hart : ℕ → ℕ
  hart = search.harts

  -- a rank that is stopped is left as it was, but for its clock
  pub idle : (s : ℕ) (a b : Cluster) (x : Rank) (stamp : ℕ) → slice_get a.ranks s ≡ Some x → IsStopped (mode_of x (hart s))
      → b.ranks ≡ slice_set a.ranks s (told x (hart s) answer.Alone stamp) → b.journal ≡ a.journal → b.boxes ≡ a.boxes
      → IsSame a b
  idle s a b x stamp here stopped ranks journal boxes = record {
    ranks = subst (λ xs. AreEach (AlikeRanks no_renaming) xs (map awake b.ranks))
        (set_kept (map awake a.ranks) s (awake x) (mapped awake a.ranks s x here))
        (subst (λ ys. AreEach (AlikeRanks no_renaming) (slice_set (map awake a.ranks) s (awake x)) ys)
        (sym (ap (map awake) (ranks ∙ ap (slice_set a.ranks s) ((rank_vain.stopped) x (hart s) stamp answer.Alone stopped).1)
        ∙ map_set awake a.ranks s (at_clock x stamp)))
        (each_set (AlikeRanks no_renaming) (map awake a.ranks) (map awake a.ranks) s (awake x) (at_clock (awake x) stamp)
        (each_itself (map awake a.ranks)) (rank_itself (awake x) stamp)));
    hubs = ap hub_of journal;
    boxes = boxes;
  }

  -- a rank that waits in vain is left as it was, but for who is awake
  pub vain : (s : ℕ) (a b : Cluster) (x : Rank) (p : Request) → slice_get a.ranks s ≡ Some x
      → waits_on (doing x.site (part_of x (hart s))) ≡ true → asked x (hart s) ≡ Ask.Hub p
      → Called s (hart s) a b x p → (outcome (hub_of a.journal) s p).0 ≡ reply.NotYet
      → IsSame a b
  vain s a b x p here on asks k told_so = record {
    ranks = subst (λ xs. AreEach (AlikeRanks no_renaming) xs (map awake b.ranks))
        (set_kept (map awake a.ranks) s (awake x) (mapped awake a.ranks s x here))
        (subst (λ ys. AreEach (AlikeRanks no_renaming) (slice_set (map awake a.ranks) s (awake x)) ys)
        (sym (ap (map awake) (k.ranks ∙ ap (λ z. slice_set a.ranks s (told x (hart s) (answer.Reply z) k.stamp)) told_so)
        ∙ map_set awake a.ranks s (told x (hart s) (answer.Reply reply.NotYet) k.stamp)
        ∙ ap (slice_set (map awake a.ranks) s) ((wake_law.vain) x (hart s) k.stamp p on asks)))
        (each_set (AlikeRanks no_renaming) (map awake a.ranks) (map awake a.ranks) s (awake x) (at_clock (awake x) k.stamp)
        (each_itself (map awake a.ranks)) (rank_itself (awake x) k.stamp)));
    hubs = k.hubs ∙ sym (hub_entry a.journal entry) ∙ hub_stays a.journal entry (reply_is a.journal s p ∙ told_so);
    boxes = k.boxes;
  }
    where
      entry : Entry
      entry = record { rank = s; hart = hart s; clock = 0; stamp = 0; request = p; reply = reply.NotYet }

  -- a look that misses leaves a rank that waits on as it was, but for who is awake
  pub missed_box : (s : ℕ) (a b : Cluster) (x : Rank) (stamp : ℕ) → slice_get a.ranks s ≡ Some x
      → waits_on (doing x.site (part_of x (hart s))) ≡ true → LooksAtBox (asked x (hart s))
      → Leaves s (hart s) a b x answer.Missed stamp a.boxes
      → IsSame a b
  missed_box s a b x stamp here on look l = record {
    ranks = subst (λ xs. AreEach (AlikeRanks no_renaming) xs (map awake b.ranks))
        (set_kept (map awake a.ranks) s (awake x) (mapped awake a.ranks s x here))
        (subst (λ ys. AreEach (AlikeRanks no_renaming) (slice_set (map awake a.ranks) s (awake x)) ys)
        (sym (ap (map awake) l.ranks ∙ map_set awake a.ranks s (told x (hart s) answer.Missed stamp)
        ∙ ap (slice_set (map awake a.ranks) s) (missed_awake x (hart s) stamp on look)))
        (each_set (AlikeRanks no_renaming) (map awake a.ranks) (map awake a.ranks) s (awake x) (at_clock (awake x) stamp)
        (each_itself (map awake a.ranks)) (rank_itself (awake x) stamp)));
    hubs = ap hub_of l.journal;
    boxes = l.boxes;
  }

  -- and one for what isn't there can't but miss
  pub vain_box : (s : ℕ) (a b : Cluster) (x : Rank) → slice_get a.ranks s ≡ Some x
      → waits_on (doing x.site (part_of x (hart s))) ≡ true → IsInVain a s (asked x (hart s)) → AtBox s (hart s) a b x
      → IsSame a b
  vain_box s a b x here on none (readied link part bytes box stamp asks is empty l) = absurd (subst (IsInVain a s) asks none)
  vain_box s a b x here on none (took link part bytes box stamp asks is holds l) =
      absurd (holds_or_empty box bytes holds (subst (IsInVain a s) asks none box is))
  vain_box s a b x here on none (freed link part box stamp asks is empty l) =
      absurd (subst (IsInVain a s) asks none box is empty)
  vain_box s a b x here on none (misses stamp look l) = missed_box s a b x stamp here on look l

  -- ---- who may go first

  module _ (s : ℕ) (a b : State search) (rs : Ranks) (out : rs s ≡ false) (sure : AreSure search a.cluster rs)
      (within : IsWithin search a.cluster s) (room : posts_of a.cluster + 3 < 65536)
      (one : Turn s (hart s) a.cluster b.cluster) where
    abbrev r : ℕ
    r = sure.one

    apart : s ≢ r
    apart e = (let k = sym out ∙ ap rs e ∙ sure.among in absurd (cc))

    abbrev t : Taken s (hart s) a.cluster
    t = taken s (hart s) a.cluster b.cluster one

    abbrev made : IsMade (asked t.rank (hart s))
    made = made_within search.patterns s (hart s) t.rank (within t.rank t.there).0

    still : slice_get b.cluster.ranks r ≡ slice_get a.cluster.ranks r
    still = kept_rank s (hart s) r a.cluster b.cluster one apart

    stays : GoesFirst search b.cluster r sure.rank → AreSure search b.cluster rs
    stays first = record {
      one = r;
      among = sure.among;
      only = sure.only;
      rank = sure.rank;
      there = still ∙ sure.there;
      first = first;
      within = λ z at. sure.within z (sym still ∙ at);
      anyway = λ may_wait.
          (rest_law.away) a.cluster b.cluster r s (hart s) (hart r) apart one (sure.anyway may_wait);
    }

    abbrev Swaps : Type 0
    Swaps = (i : ℕ) (c : State search) (found : Bool) → rs i ≡ true → Takes (cluster_machine search) found i b c
        → IsExchanged (cluster_machine search) found i s a c

    -- a turn that found what it asks for, if that is wanted
    abbrev Exchanges : Type 0
    Exchanges =
        (c : State search) (found : Bool) (two : Turn r (hart r) b.cluster c.cluster)
        → (found ≡ true → is_miss two.step.kind ≡ false)
        → IsExchanged (cluster_machine search) found r s a c

    swaps : Exchanges → Swaps
    swaps each i c found among takes =
        let same = sure.only i among in
        subst (λ k. IsExchanged (cluster_machine search) found k s a c) (sym same)
        (by found (subst (λ k. Takes (cluster_machine search) found k b c) same takes))
      where
        by : (found : Bool) → Takes (cluster_machine search) found r b c → IsExchanged (cluster_machine search) found r s a c
        by true takes = each c true takes.0 (λ is. takes.1)
        by false takes = each c false takes (λ is. absurd (cc))

    abbrev Result : Type 0
    Result = AreAlike search.wild (awake_cluster a.cluster) (awake_cluster b.cluster) ⊎ (AreSure search b.cluster rs × Swaps)

    ready_then : (q : Request) → IsSure (plans_of hart) 65535 (at_start a.cluster) r → asked sure.rank (hart r) ≡ Ask.Hub q
        → IsReady q (reply_in b.cluster.journal r q)
    ready_then q is asks =
        let g = grows_by hart s a.cluster b.cluster one in
        let high = g.1 in
        subst (IsSureAsk b.cluster r) asks
        (is.asks (s ∷ []) (record { cluster = b.cluster; had = one_more none_had s }) (apart, tt)
        (record { cluster = b.cluster; had = one_more none_had s }, goes_of hart s a.cluster b.cluster none_had one, refl)
        (omega (arith, high, room)) sure.rank (still ∙ sure.there))

    abbrev h : HubView
    h = hub_of a.cluster.journal

    abbrev w : Bool
    w = waits_on (doing t.rank.site (part_of t.rank (hart s)))

    away : r ≢ s
    away e = apart (sym e)

    few : length h.board.lines < 65536
    few = omega (arith, room)

    allowed : (p : Request) → asked t.rank (hart s) ≡ Ask.Hub p → IsAllowed search.patterns s (pattern_of_request w p)
    allowed p also = subst (λ u. IsAllowed search.patterns s (pattern_of_ask w u)) also (within t.rank t.there).0

    -- a call that stays sure
    module _ (q : Request) (asks : asked sure.rank (hart r) ≡ Ask.Hub q) (kept : AreSure search b.cluster rs) where
      exchanges : (p : Request) → asked t.rank (hart s) ≡ Ask.Hub p → MayExchange search.wild h r q s p → Result
      exchanges p also v =
          inr (
            kept,
            swaps (λ c found two finds.
                by_exchange search r s a b c apart sure.rank t.rank sure.there t.there sure.within within room one two found finds
                q asks p also v),
          )

      past_own : IsOwn (asked t.rank (hart s)) → Result
      past_own own =
          inr (
            kept,
            swaps (λ c found two finds.
                by_own search r s a b c apart sure.rank t.rank sure.there t.there sure.within within room one two found finds own),
          )

      past_box : IsAtBox (asked t.rank (hart s)) → Result
      past_box at =
          inr (
            kept,
            swaps (λ c found two finds.
                past_place search r s a b c apart sure.rank t.rank sure.there t.there sure.within within room one two found finds
                (visit_kind s (hart s) a.cluster b.cluster t.rank t.there at one)
                (only_beside r (hart r) b.cluster c.cluster sure.rank (still ∙ sure.there) (subst IsOnly (sym asks) tt) two)),
          )

    module _ (q : Request) (asks : asked sure.rank (hart r) ≡ Ask.Hub q) (post : IsPosting q)
        (pass : (s : ℕ) (p : Pattern) → s ≢ r → IsAllowed search.patterns s p → MayPass search.wild r q s p) where
      posts_still : AreSure search b.cluster rs
      posts_still = stays (posts q asks post pass)

      laid_then : Laid (outcome h r q).1
      laid_then =
          subst Laid (hub_entry a.cluster.journal entry)
          (laid_after a.cluster.journal.links (calls_of (with_entry a.cluster.journal entry).entries))
        where
          entry : Entry
          entry = record { rank = r; hart = hart r; clock = 0; stamp = 0; request = q; reply = reply.NotYet }

      module _ (p : Request) (also : asked t.rank (hart s) ≡ Ask.Hub p) (k : Called s (hart s) a.cluster b.cluster t.rank p) where
        may : MayPass search.wild r q s (pattern_of_request w p)
        may = pass s (pattern_of_request w p) apart (allowed p also)

        posting : IsPosting p → NoRace search.wild q p → NoSync r q s p → Result
        posting is race sync =
            inr (
              posts_still,
              swaps (λ c found two finds.
                  by_posts search r s a b c apart sure.rank t.rank sure.there t.there sure.within within room one two found finds
                  q asks p also post is race sync),
            )

        exchanged : MayExchange search.wild h r q s p → Result
        exchanged v = exchanges q asks posts_still p also v

        -- where nothing is there it waits on, and is left as it was; or the call of r brings it nothing
        looks : (w ≡ true) ⊎ BringsNothing q s p → IsLook p → IsTold h s p → Result
        looks (inl on) is (not_yet none) =
            inl (same_alike search.wild a.cluster b.cluster (a.good).boxes
            (vain s a.cluster b.cluster t.rank p t.there on also k none))
        looks (inr nothing) is (not_yet none) = exchanged (of_vain search.wild a.cluster r s q p away few post is nothing none)
        looks can is (is_there ready) = exchanged (of_ready search.wild a.cluster r s q p away few laid_then ready)
        looks can is (refused bad) = exchanged (of_refused search.wild a.cluster r s q p away few post bad)

      -- a call that goes on where nothing is there may be passed by what brings it nothing
      look_by : (p : Request) (also : asked t.rank (hart s) ≡ Ask.Hub p) (k : Called s (hart s) a.cluster b.cluster t.rank p)
          → IsLook p → (v : Bool) → w ≡ v → Result
      look_by p also k is true on = looks p also k (inl on) is (is_told h s p is)
      look_by (request.Collect n) also k is false off =
          looks (request.Collect n) also k
          (inr (no_collect q s n post
          (subst (λ v. MayPass search.wild r q s (pattern_of_request v (request.Collect n))) off (may (request.Collect n) also k))))
          tt (is_told h s (request.Collect n) tt)
      look_by (request.Finished n) also k is false off =
          looks (request.Finished n) also k
          (inr (no_finish q s n post
          (subst (λ v. MayPass search.wild r q s (pattern_of_request v (request.Finished n))) off (may (request.Finished n) also k))))
          tt (is_told h s (request.Finished n) tt)
      look_by (request.All ns) also k is false off =
          looks (request.All ns) also k
          (inr (no_several q s ns post
          (subst (λ v. MayPass search.wild r q s (pattern_of_request v (request.All ns))) off (may (request.All ns) also k))))
          tt (is_told h s (request.All ns) tt)
      look_by (request.Probe comm source tag) also k is false off =
          looks (request.Probe comm source tag) also k
          (inr (no_probe q s comm source tag post
          (subst (λ v. MayPass search.wild r q s (pattern_of_request v (request.Probe comm source tag))) off
          (may (request.Probe comm source tag) also k))))
          tt (is_told h s (request.Probe comm source tag) tt)
      look_by _ also k is false off = absurd is

      call_by : (p : Request) → asked t.rank (hart s) ≡ Ask.Hub p → Called s (hart s) a.cluster b.cluster t.rank p → Result
      call_by (request.Send sync comm dest tag bytes) also k =
          (let f = race_of search.wild r q s sync comm dest tag bytes post (may (request.Send sync comm dest tag bytes) also k) in
          posting (request.Send sync comm dest tag bytes) also k tt f.0 f.1)
      call_by (request.Recv now comm source tag) also k =
          (let f = sync_of search.wild r q s now comm source tag post (may (request.Recv now comm source tag) also k) in
          posting (request.Recv now comm source tag) also k tt f.0 f.1)
      call_by (request.Collect n) also k = look_by (request.Collect n) also k tt w refl
      call_by (request.Finished n) also k = look_by (request.Finished n) also k tt w refl
      call_by (request.All ns) also k = look_by (request.All ns) also k tt w refl
      call_by (request.Probe comm source tag) also k = look_by (request.Probe comm source tag) also k tt w refl
      call_by (request.Claim comm source tag) also k = absurd (may (request.Claim comm source tag) also k)
      call_by (request.Claimed now n) also k = absurd (may (request.Claimed now n) also k)
      call_by (request.Init sends comm peer tag parts size) also k =
          exchanged (request.Init sends comm peer tag parts size) also k
          (of_transfers search.wild a.cluster r s q (request.Init sends comm peer tag parts size) away few (posts_other q post) tt)
      call_by (request.Cut link) also k =
          exchanged (request.Cut link) also k
          (of_transfers search.wild a.cluster r s q (request.Cut link) away few (posts_other q post) tt)

      by_posting : Gone s (hart s) a.cluster b.cluster t.rank → Result
      by_posting (alone stamp own ranks journal boxes) = past_own q asks posts_still own
      by_posting (called p also k) = call_by p also k
      by_posting (met at box) = past_box q asks posts_still at

    module _ (sends : Bool) (comm peer tag parts size : ℕ)
        (asks : asked sure.rank (hart r) ≡ Ask.Hub (request.Init sends comm peer tag parts size))
        (pass : (s : ℕ) (p : Pattern) → s ≢ r → IsAllowed search.patterns s p
        → InitMayPass r (request.Init sends comm peer tag parts size) s p) where
      abbrev mine : Request
      mine = request.Init sends comm peer tag parts size

      initialises_still : AreSure search b.cluster rs
      initialises_still = stays (initialises mine asks tt pass)

      may_begin : (p : Request) → asked t.rank (hart s) ≡ Ask.Hub p → InitMayPass r mine s (pattern_of_request w p)
      may_begin p also = pass s (pattern_of_request w p) apart (allowed p also)

      -- where the cut isn't known a rank waits on, and is left as it was; or a receiver's side doesn't make it known
      cut_by : (link : ℕ) → asked t.rank (hart s) ≡ Ask.Hub (request.Cut link)
          → Called s (hart s) a.cluster b.cluster t.rank (request.Cut link)
          → Result
      cut_by link also k = go (is_not_yet (outcome h s (request.Cut link)).0) w refl
        where
          by : (sends ≡ false) ⊎ ((outcome h s (request.Cut link)).0 ≢ reply.NotYet) → Result
          by why =
              exchanges mine asks initialises_still (request.Cut link) also
              (of_cut search.wild a.cluster r s sends comm peer tag parts size link why)

          go : ((outcome h s (request.Cut link)).0 ≡ reply.NotYet) ⊎ ((outcome h s (request.Cut link)).0 ≢ reply.NotYet)
              → (v : Bool) → w ≡ v → Result
          go (inr known) v is = by (inr known)
          go (inl none) true on =
              inl (same_alike search.wild a.cluster b.cluster (a.good).boxes
              (vain s a.cluster b.cluster t.rank (request.Cut link) t.there on also k none))
          go (inl none) false off =
              by (inl (subst (λ v. InitMayPass r mine s (pattern_of_request v (request.Cut link))) off
              (may_begin (request.Cut link) also)))

      by_other : (p : Request) → asked t.rank (hart s) ≡ Ask.Hub p → IsOther p → Result
      by_other p also is =
          exchanges mine asks initialises_still p also (of_other search.wild a.cluster r s mine p away few tt is)

      init_by : (p : Request) → asked t.rank (hart s) ≡ Ask.Hub p → Called s (hart s) a.cluster b.cluster t.rank p → Result
      init_by (request.Init gives other whom label cuts each) also k =
          exchanges mine asks initialises_still (request.Init gives other whom label cuts each) also
          (of_two search.wild a.cluster r s sends comm peer tag parts size gives other whom label cuts each away
          (may_begin (request.Init gives other whom label cuts each) also))
      init_by (request.Cut link) also k = cut_by link also k
      init_by (request.Send sync other dest label bytes) also k = by_other (request.Send sync other dest label bytes) also tt
      init_by (request.Recv now other source label) also k = by_other (request.Recv now other source label) also tt
      init_by (request.Collect n) also k = by_other (request.Collect n) also tt
      init_by (request.Finished n) also k = by_other (request.Finished n) also tt
      init_by (request.All ns) also k = by_other (request.All ns) also tt
      init_by (request.Probe other source label) also k = by_other (request.Probe other source label) also tt
      init_by (request.Claim other source label) also k = by_other (request.Claim other source label) also tt
      init_by (request.Claimed now n) also k = by_other (request.Claimed now n) also tt

      by_beginning : Gone s (hart s) a.cluster b.cluster t.rank → Result
      by_beginning (alone stamp own ranks journal boxes) = past_own mine asks initialises_still own
      by_beginning (called p also k) = init_by p also k
      by_beginning (met at box) = past_box mine asks initialises_still at

    by_initialising : (q : Request) → asked sure.rank (hart r) ≡ Ask.Hub q → IsInitialisation q
        → ((s : ℕ) (p : Pattern) → s ≢ r → IsAllowed search.patterns s p → InitMayPass r q s p)
        → Gone s (hart s) a.cluster b.cluster t.rank
        → Result
    by_initialising (request.Init sends comm peer tag parts size) asks is pass =
        by_beginning sends comm peer tag parts size asks pass
    by_initialising _ asks is pass = absurd is

    -- a turn of a rank that can't go on leaves what is alike
    still_turn : IsStill a.cluster s t.rank (hart s) → Gone s (hart s) a.cluster b.cluster t.rank → IsSame a.cluster b.cluster
    still_turn (inl stopped) (alone stamp own ranks journal boxes) =
        idle s a.cluster b.cluster t.rank stamp t.there stopped ranks journal boxes
    still_turn (inl stopped) (called p also k) =
        (let none = sym ((rank_vain.stopped) t.rank (hart s) 0 answer.Alone stopped).0 ∙ also in absurd (cc))
    still_turn (inl stopped) (met at box) =
        absurd (subst IsAtBox ((rank_vain.stopped) t.rank (hart s) 0 answer.Alone stopped).0 at)
    still_turn (inr waits) (alone stamp own ranks journal boxes) = absurd (own_or_vain a.cluster s (asked t.rank (hart s)) own waits.1)
    still_turn (inr waits) (called p also k) =
        vain s a.cluster b.cluster t.rank p t.there waits.0 also k
        (sym (reply_is a.cluster.journal s p) ∙ subst (IsInVain a.cluster s) also waits.1)
    still_turn (inr waits) (met at box) = vain_box s a.cluster b.cluster t.rank t.there waits.0 waits.1 box

    -- a turn at a box
    module _ (finds : FindsBox a.cluster (waits_on (doing sure.rank.site (part_of sure.rank (hart r)))) (asked sure.rank (hart r)))
        (pass : (s : ℕ) (p : Pattern) → s ≢ r → IsAllowed search.patterns s p → MayMeet (asked sure.rank (hart r)) p) where
      abbrev number : ℕ
      number = number_of (asked sure.rank (hart r))

      asks_same : asked one.leads.0 one.step.hart ≡ asked t.rank (hart s)
      asks_same =
          ap (λ z. asked z one.step.hart)
          (same_Some one.leads.0 t.rank (sym one.leads.1 ∙ ap (slice_get a.cluster.ranks) one.rank ∙ t.there))
          ∙ ap (asked t.rank) one.hart

      theirs : MayMeet (asked sure.rank (hart r)) (pattern_of t.rank (hart s))
      theirs = pass s (pattern_of t.rank (hart s)) apart (within t.rank t.there).0

      -- the turn of s leaves the box as it was
      kept_box : slice_get b.cluster.boxes number ≡ slice_get a.cluster.boxes number → AreSure search b.cluster rs
      kept_box same = stays (meets (finds_kept a.cluster b.cluster _ _ same finds) pass)

      visits : (c : State search) → (two : Turn r (hart r) b.cluster c.cluster) → IsVisit two.step.kind
      visits c two =
          visit_kind r (hart r) b.cluster c.cluster sure.rank (still ∙ sure.there)
          (finds_at_box a.cluster _ (asked sure.rank (hart r)) finds) two

      asks_mine : (c : State search) → (two : Turn r (hart r) b.cluster c.cluster)
          → asked two.leads.0 two.step.hart ≡ asked sure.rank (hart r)
      asks_mine c two =
          ap (λ z. asked z two.step.hart)
          (same_Some two.leads.0 sure.rank (sym two.leads.1 ∙ ap (slice_get b.cluster.ranks) two.rank ∙ still ∙ sure.there))
          ∙ ap (asked sure.rank) two.hart

      by_meeting : IsBeside one.step.kind ⊎ IsFilling one.step.kind → Result
      by_meeting (inl is) =
          let e = beside a.cluster b.cluster one.step one.leads.0 is one.leads.3 in
          inr (
            kept_box (ap (λ bs. slice_get bs number) e.boxes),
            swaps (λ c found two it_finds.
                past_beside search r s a b c apart sure.rank t.rank sure.there t.there sure.within within room one two found it_finds
                is (visits c two)),
          )
      by_meeting (inr fills) =
          let visit = filling_visits one.step.kind fills in
          let e = in_place a.cluster b.cluster one.step one.leads.0 visit one.leads.3 in
          let two_boxes : number_of (asked one.leads.0 one.step.hart) ≢ number =
          other_box a.cluster b.cluster one.step one.leads.0 _ _ (asked sure.rank (hart r)) finds one.step.kind fills one.leads.3
          (subst (λ z. MayMeet (asked sure.rank (hart r)) (pattern_of_ask w z)) (sym asks_same) theirs) in
          inr (
            kept_box (ap (λ bs. slice_get bs number) e.boxes
                ∙ put_other a.cluster.boxes (number_of (asked one.leads.0 one.step.hart)) number e.box two_boxes),
            swaps (λ c found two it_finds.
                past_other search r s a b c apart sure.rank t.rank sure.there t.there sure.within within room one two found it_finds
                visit (visits c two)
                (λ same. two_boxes (same ∙ ap number_of (asks_mine c two)))),
          )

    by_first : GoesFirst search a.cluster r sure.rank → Result
    by_first (lone can still) =
        inl (same_alike search.wild a.cluster b.cluster (a.good).boxes
        (still_turn (still s t.rank apart t.there) (gone s (hart s) a.cluster b.cluster t.rank t.there made one)))
    by_first (busy is) =
        let s_law = sure_alone_law (plans_of hart) 65535 (at_start a.cluster) r sure.rank
        (alike_itself a.cluster (a.good).boxes) sure.there is in
        inr (
          stays (busy is),
          swaps (λ c found two finds.
              by_sure search r s a b c apart sure.rank t.rank sure.there t.there sure.within within room one two found finds
              (busy_only (asked sure.rank (hart r)) is) s_law),
        )
    by_first (collects q asks ready) =
        let s_law = sure_hub_law (plans_of hart) 65535 (at_start a.cluster) r sure.rank q (omega arith)
        (alike_itself a.cluster (a.good).boxes) sure.there asks ready in
        inr (
          stays (collects q asks (ready_then q s_law asks)),
          swaps (λ c found two finds.
              by_sure search r s a b c apart sure.rank t.rank sure.there t.there sure.within within room one two found finds
              (subst IsOnly (sym asks) tt) s_law),
        )
    by_first (posts q asks post pass) =
        by_posting q asks post pass (gone s (hart s) a.cluster b.cluster t.rank t.there made one)
    by_first (initialises q asks is pass) =
        by_initialising q asks is pass (gone s (hart s) a.cluster b.cluster t.rank t.there made one)
    by_first (meets finds pass) = by_meeting finds pass (kind_of one.step.kind)

  -- ---- a poll of what is there

  -- a call that asks for what is there makes no post
  no_post : (r : ℕ) (a b : Cluster) (rank : Rank) (q : Request) → slice_get a.ranks r ≡ Some rank → asked rank (hart r) ≡ Ask.Hub q
      → IsReady q (reply_in a.journal r q) → Turn r (hart r) a b
      → posts_of b ≡ posts_of a
  no_post r a b rank q there asks ready turn =
      let k = call_of r (hart r) a b rank q there asks turn in
      ap (λ (h : HubView). length h.board.lines) k.hubs
      ∙ ap length (same_lines (hub_of a.journal) r q
      (ready_from (hub_of a.journal) r q (subst (IsReady q) (reply_is a.journal r q) ready)))

  poll_sure : (r : ℕ) (a : State search) (p : IsReadyPoll search a.cluster r) → IsSure (plans_of hart) 65535 (at_start a.cluster) r
  poll_sure r a p =
      sure_hub_law (plans_of hart) 65535 (at_start a.cluster) r p.rank p.q (omega arith)
      (alike_itself a.cluster (a.good).boxes) p.there p.asks p.ready

  live_hub : (q : Request) (a : Ask) → a ≡ Ask.Hub q → IsLive a
  live_hub q a e = subst IsLive (sym e) tt

  -- where a rank's turn leads that can be taken
  goes_on : (r : ℕ) (a : State search) (rank : Rank) → slice_get a.cluster.ranks r ≡ Some rank → IsWithin search a.cluster r
      → IsLive (asked rank (hart r)) → IsOnly (asked rank (hart r))
      → (b : State search) × Turn r (hart r) a.cluster b.cluster
  goes_on r a rank there within live single =
      let t = turn_by r (hart r) a.cluster rank there (has_hart rank (hart r) live) single in
      (record { cluster = t.0; good = good_after search r a.cluster t.0 rank there a.good within t.1 }, t.1)

  -- and finds what it asks for
  finds_on : (r : ℕ) (a : State search) (rank : Rank) → slice_get a.cluster.ranks r ≡ Some rank → IsWithin search a.cluster r
      → IsLive (asked rank (hart r)) → IsOnly (asked rank (hart r))
      → (b : State search) × Found r (hart r) a.cluster b.cluster
  finds_on r a rank there within live single =
      let t = goes_on r a rank there within live single in
      (t.0, (t.1, no_miss r (hart r) a.cluster t.0.cluster rank there single t.1))

  still_polls : (r s : ℕ) (a b : State search) → s ≢ r → (p : IsReadyPoll search a.cluster r) → posts_of a.cluster + 1 < 65536
      → Turn s (hart s) a.cluster b.cluster
      → IsReadyPoll search b.cluster r
  still_polls r s a b apart p space one =
      let same = kept_rank s (hart s) r a.cluster b.cluster one apart in
      let g = grows_by hart s a.cluster b.cluster one in
      let high = g.1 in
      record {
        rank = p.rank;
        there = same ∙ p.there;
        light = p.light;
        q = p.q;
        asks = p.asks;
        ready = subst (IsSureAsk b.cluster r) p.asks
            ((poll_sure r a p).asks (s ∷ []) (record { cluster = b.cluster; had = one_more none_had s }) (apart, tt)
            (record { cluster = b.cluster; had = one_more none_had s }, goes_of hart s a.cluster b.cluster none_had one, refl)
            (omega (arith, high, space)) p.rank (same ∙ p.there));
        within = λ z at. p.within z (sym same ∙ at);
      }

  polls_first : (r s : ℕ) (a b c : State search) → s ≢ r → (p : IsReadyPoll search a.cluster r) → IsWithin search a.cluster s
      → posts_of a.cluster + 1 < 65536 → Turn s (hart s) a.cluster b.cluster → Turn r (hart r) b.cluster c.cluster
      → (first : State search) × (second : State search) × Turn r (hart r) a.cluster first.cluster
      × Turn s (hart s) first.cluster second.cluster
      × AreAlike search.wild (awake_cluster c.cluster) (awake_cluster second.cluster)
  polls_first r s a b c apart p within space one two =
      let t = taken s (hart s) a.cluster b.cluster one in
      let g = grows_by hart s a.cluster b.cluster one in
      let q = still_polls r s a b apart p space one in
      let same = no_post r b.cluster c.cluster q.rank q.q q.there q.asks q.ready two in
      let high = g.1 in
      let w = swapped_sure search r s a b c apart p.rank t.rank p.there t.there p.within within one two
      (omega (arith, same, high, space)) (poll_sure r a p) in
      (w.first, w.second, w.goes, w.then, w.alike)

  -- ---- who goes first can go

  sure_goes : (rs : Ranks) (r : ℕ) (a : State search) → AreSure search a.cluster rs → rs r ≡ true
      → (b : State search) × Found r (hart r) a.cluster b.cluster
  sure_goes rs r a sure among =
      subst (λ i. (b : State search) × Found i (hart i) a.cluster b.cluster) (sym (sure.only r among)) (go sure.first)
    where
      one : (live : IsLive (asked sure.rank (hart sure.one))) → IsOnly (asked sure.rank (hart sure.one))
          → (b : State search) × Found sure.one (hart sure.one) a.cluster b.cluster
      one live single = finds_on sure.one a sure.rank sure.there sure.within live single

      hub : (q : Request) → asked sure.rank (hart sure.one) ≡ Ask.Hub q
          → (b : State search) × Found sure.one (hart sure.one) a.cluster b.cluster
      hub q asks = one (live_hub q _ asks) (subst IsOnly (sym asks) tt)

      go : GoesFirst search a.cluster sure.one sure.rank
          → (b : State search) × Found sure.one (hart sure.one) a.cluster b.cluster
      go (busy is) = one (busy_alive (asked sure.rank (hart sure.one)) is) (busy_only (asked sure.rank (hart sure.one)) is)
      go (collects q asks ready) = hub q asks
      go (posts q asks post pass) = hub q asks
      go (initialises q asks is pass) = hub q asks
      go (lone can others) = one (can_live (asked sure.rank (hart sure.one)) can) (can_only (asked sure.rank (hart sure.one)) can)
      go (meets finds pass) =
          let at = finds_at_box a.cluster _ (asked sure.rank (hart sure.one)) finds in
          let t = turn_found sure.one (hart sure.one) a.cluster sure.rank _ sure.there
          (has_hart sure.rank (hart sure.one) (box_live (asked sure.rank (hart sure.one)) at)) finds in (
            record { cluster = t.0; good = good_after search sure.one a.cluster t.0 sure.rank sure.there a.good sure.within t.1.0 },
            t.1,
          )

  -- a turn of who goes first that misses is in vain
  pub first_misses : (r : ℕ) (a b : State search) (rank : Rank) → slice_get a.cluster.ranks r ≡ Some rank
      → GoesFirst search a.cluster r rank → (turn : Turn r (hart r) a.cluster b.cluster) → is_miss turn.step.kind ≡ true
      → AreAlike search.wild (awake_cluster a.cluster) (awake_cluster b.cluster)
  first_misses r a b rank there first turn missed = go first
    where
      single : IsOnly (asked rank (hart r)) → AreAlike search.wild (awake_cluster a.cluster) (awake_cluster b.cluster)
      single is = (let no = sym (no_miss r (hart r) a.cluster b.cluster rank there is turn) ∙ missed in absurd (cc))

      waits : (ask : Ask) → LooksAtBox ask → FindsBox a.cluster (waits_on (doing rank.site (part_of rank (hart r)))) ask
          → waits_on (doing rank.site (part_of rank (hart r))) ≡ true
      waits (Ask.Look link part) look f = f.0
      waits (Ask.Freed link part) look f = f.0
      waits _ look f = absurd look

      go : GoesFirst search a.cluster r rank → AreAlike search.wild (awake_cluster a.cluster) (awake_cluster b.cluster)
      go (busy is) = single (busy_only (asked rank (hart r)) is)
      go (collects q asks ready) = single (subst IsOnly (sym asks) tt)
      go (posts q asks post pass) = single (subst IsOnly (sym asks) tt)
      go (initialises q asks is pass) = single (subst IsOnly (sym asks) tt)
      go (lone can others) = single (can_only (asked rank (hart r)) can)
      go (meets finds pass) =
          let m = miss_leaves r (hart r) a.cluster b.cluster rank there turn missed in
          same_alike search.wild a.cluster b.cluster (a.good).boxes
          (missed_box r a.cluster b.cluster rank turn.step.stamp there (waits (asked rank (hart r)) m.0 finds) m.0 m.1)

  sure_asks : (rs : Ranks) (r : ℕ) (a : State search) → AreSure search a.cluster rs → rs r ≡ true → IsWithin search a.cluster r
  sure_asks rs r a sure among = subst (IsWithin search a.cluster) (sym (sure.only r among)) sure.within

  -- ---- the machine

  same_posts : (a b : State search) → AreAlike search.wild (awake_cluster a.cluster) (awake_cluster b.cluster)
      → posts_of b.cluster ≡ posts_of a.cluster
  same_posts a b k = (((k.1).hubs).board).many

  pub is_machine : IsMachine (cluster_machine search)
  is_machine = record {
    itself = λ a. likeness_law.same search.wild (awake_cluster a.cluster) (awake_cluster a.cluster)
        (alike_itself (awake_cluster a.cluster) (a.good).boxes);
    back = λ a b k. likeness_law.back search.wild (awake_cluster a.cluster) (awake_cluster b.cluster) k;
    on = λ a b c k l.
        likeness_law.on search.wild (awake_cluster a.cluster) (awake_cluster b.cluster) (awake_cluster c.cluster) k l;
    follows = λ r a b c k within goes. (let f = follows search r a b c k within goes in (f.there, f.goes, f.alike));
    within = λ r a b k w. within_too search r a b k w;
    weight = λ r a b k. weight_too search r a b k;
    room = λ a b k h. (let e = same_posts a b k in omega (arith, e, h));
    grows = λ r a b goes h. (let g = (grows_by hart r a.cluster b.cluster goes).0 in omega (arith, g, h));
    space = λ a b k h. (let e = same_posts a b k in omega (arith, e, h));
    now = λ a h. omega (arith, h);
    soon = λ r s a b c h one two. (
      let g = (grows_by hart r a.cluster b.cluster one).1 in omega (arith, g, h),
      let g = (grows_by hart r a.cluster b.cluster one).1 in
          let k = (grows_by hart s b.cluster c.cluster two).1 in
          omega (arith, g, k, h),
    );
    own = λ r s a b apart goes. (
      λ w z at. w z (sym (kept_rank r (hart r) s a.cluster b.cluster goes (λ e. apart (sym e))) ∙ at),
      λ w z at. w z (kept_rank r (hart r) s a.cluster b.cluster goes (λ e. apart (sym e)) ∙ at),
    );
    owns = λ r s a b apart goes.
        ap (λ o. weight_of o (hart s)) (kept_rank r (hart r) s a.cluster b.cluster goes (λ e. apart (sym e)));
    polls = λ r a p. goes_on r a p.rank p.there p.within (live_hub p.q _ p.asks) (subst IsOnly (sym p.asks) tt);
    asks_for = λ r a p. p.within;
    gets = λ r a b p space goes.
        (let e = no_post r a.cluster b.cluster p.rank p.q p.there p.asks p.ready goes in omega (arith, e, space));
    ready = λ r s a b apart p within space one. (
      still_polls r s a b apart p space one,
      λ c two. polls_first r s a b c apart p within space one two,
    );
    finds_goes = λ r a b f. f.0;
    goes = sure_goes;
    asks = sure_asks;
    first = λ rs s a b out sure within room one. by_first s a b rs out sure within room one sure.first;
  }

pub cluster_machine_law : ClusterMachineLaw
cluster_machine_law search = is_machine search
