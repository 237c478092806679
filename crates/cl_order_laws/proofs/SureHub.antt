-- A rank that asks the hub for what is there and stays is sure.
use Rattle.std.proofs.Common.{◌≡◌, ℕ, ◌+◌, ◌<◌, ◌≤◌, inl, inr, List, [], ◌∷◌, length, Some, refl, sym, ap, ◌∙◌, subst, arith}
use Rattle.std.specs.Prelude.{◌≢◌, max}
use Rattle.std.specs.List.{slice_get, slice_set}
use Rattle.std.proofs.lemmas.Option.{same_Some}
use Rattle.mp_types.specs.declared.replies.Reply.{Reply}
use Rattle.mp_types.specs.declared.replies.Reply.TheVariants as reply
use Rattle.mp_types.specs.declared.requests.Request.{Request}
use Rattle.mp_types.specs.declared.requests.Request.TheVariants as request
use Rattle.mp_hub.specs.Hub.{HubView, outcome}
use Rattle.mp_wait_laws.proofs.Fresh.{Laid}
use Rattle.mp_wait_laws.proofs.Sets.{get-set_other}
use Rattle.mp_wait_laws.proofs.Waits.{laid_after}
use Rattle.mp_alike_laws.specs.Renaming.{no_renaming}
use Rattle.mp_alike_laws.specs.Alike.{AlikeHubs}
use Rattle.mp_alike_laws.proofs.Likeness.{itself as hub_itself}
use Rattle.cl_journal.specs.declared.entries.Entry.{Entry}
use Rattle.cl_journal.specs.Journal.{calls_of}
use Rattle.cl_state.specs.declared.asking.Answer.{Answer}
use Rattle.cl_state.specs.declared.asking.Ask.{Ask}
use Rattle.cl_state.specs.Asked.{asked}
use Rattle.cl_state.specs.Rank.{Rank}
use Rattle.cl_state.specs.Told.{told}
use Rattle.cl_state_laws.specs.VainLaws.{at_clock}
use Rattle.cl_state_laws.proofs.Vain.{vain_law as rank_vain}
use Rattle.cl_trace.specs.declared.events.Kind.{Kind}
use Rattle.cl_machine.specs.declared.steps.Step.{Step}
use Rattle.cl_machine.specs.Boxes.{Box}
use Rattle.cl_machine.specs.Cluster.{CaseOf, Cluster}
use Rattle.cl_machine.specs.Journal.{Journal, reply_in, with_entry}
use Rattle.cl_order_laws.specs.Alike.{AlikeBoxes, AlikeRanks, AreEach, Leads, hub_of}
use Rattle.cl_order_laws.specs.Closed.{IsEnd, IsInVain, Node, Plans, one_more}
use Rattle.cl_order_laws.specs.Laws.{AreAlike}
use Rattle.cl_order_laws.specs.Sure.{AreOthers, Goes, GoesOn, IsFirst, IsSure}
use Rattle.cl_order_laws.specs.SureAsks.{IsReady, IsSureAsk}
use Rattle.cl_order_laws.specs.SureTurns.{SureHubLaw}
use Rattle.cl_order_laws.specs.Turns.{IsTurn, called}
use Rattle.cl_order_laws.proofs.Commuting.{set_apart}
use Rattle.cl_order_laws.proofs.Covered.{had_other, node_of}
use Rattle.cl_order_laws.proofs.Each.{each_set}
use Rattle.cl_order_laws.proofs.Likeness.{AreSound, rank_itself, sound_case, sound_of}
use Rattle.cl_order_laws.proofs.Ranks.{told_stamped}
use Rattle.cl_order_laws.proofs.SureAlone.{IsLive, has_hart}
use Rattle.cl_order_laws.proofs.Ready.{exchanged, ready_from, same_lines}
use Rattle.cl_order_laws.proofs.Walks.{hub_entry, posts, turn_posts, walk_posts}
use Rattle.cl_order_laws.proofs.Turns.{turns_law}

pub reply_is : (journal : Journal) (r : ℕ) (q : Request) → reply_in journal r q ≡ (outcome (hub_of journal) r q).0
unfolding reply_in
reply_is journal r q = refl

laid_hub : (journal : Journal) → Laid (hub_of journal)
laid_hub journal = laid_after journal.links (calls_of journal.entries)

pub not_vain : (q : Request) → IsReady q reply.NotYet → ⊥
not_vain (request.Collect post) is = is
not_vain (request.Finished post) is = is
not_vain (request.All posts) is = is
not_vain (request.Probe comm source tag) is = is
not_vain (request.Cut link) is = is
not_vain _ is = is

-- ---- a turn of another rank

module _ (r : ℕ) (q : Request) (c m : Cluster) (f : Step) (y : Rank) (apart : f.rank ≢ r)
    (ready : IsReady q (outcome (hub_of c.journal) r q).0) (room : posts c < 65536) where
  abbrev hub : HubView
  hub = hub_of c.journal

  -- the call of the other rank
  module _ (p : Request) (called_so : hub_of m.journal ≡ (outcome hub f.rank p).1) where
    exchange : (outcome (hub_of m.journal) r q).0 ≡ (outcome hub r q).0
    exchange =
        ap (λ h. (outcome h r q).0) called_so
        ∙ (exchanged r f.rank apart p hub q (laid_hub c.journal) (subst Laid called_so (laid_hub m.journal)) room
        (ready_from hub r q ready)).reply

    behind : outcome (outcome hub r q).1 f.rank p ≡ ((outcome hub f.rank p).0, (outcome (hub_of m.journal) r q).1)
    behind =
        (exchanged r f.rank apart p hub q (laid_hub c.journal) (subst Laid called_so (laid_hub m.journal)) room
        (ready_from hub r q ready)).call
        ∙ ap (λ h. (let o : Reply × HubView = ((outcome hub f.rank p).0, (outcome h r q).1) in o)) (sym called_so)

  -- where the rank's call came first, the other's turn leads to what is alike
  record Second (k : Cluster) : Type 0 where
    step : Step
    rank : step.rank ≡ f.rank
    hart : step.hart ≡ f.hart
    last : Cluster
    leads : Leads k step last
    then : Rank
    other : Rank
    ranks : m.ranks ≡ slice_set c.ranks f.rank then
    others : last.ranks ≡ slice_set k.ranks f.rank other
    alike : AlikeRanks no_renaming then other
    boxes : last.boxes ≡ m.boxes
    hubs : hub_of last.journal ≡ (outcome (hub_of m.journal) r q).1
    reply : (outcome (hub_of m.journal) r q).0 ≡ (outcome hub r q).0

  module _ (k : Cluster) (first : hub_of k.journal ≡ (outcome hub r q).1) (same_boxes : k.boxes ≡ c.boxes)
      (there : slice_get k.ranks f.rank ≡ Some y) (hart : f.hart < length y.harts) where
    -- a turn that doesn't ask the hub
    beside : (kind : Kind) → f.kind ≡ kind → (then : Rank) (boxes : List Box)
        → m ≡ record { ranks = slice_set c.ranks f.rank then; journal = c.journal; boxes = boxes }
        → ((ranks : List Rank) (journal : Journal)
        → CaseOf (record { ranks = ranks; journal = journal; boxes = c.boxes }) f y kind
        (record { ranks = slice_set ranks f.rank then; journal = journal; boxes = boxes }))
        → Second k
    beside kind is then boxes same does =
        let last : Cluster =
        record { ranks = slice_set k.ranks f.rank then; journal = k.journal; boxes = boxes } in
        record {
          step = f;
          rank = refl;
          hart = refl;
          last = last;
          leads = (
            y,
            there,
            hart,
            subst (λ x. CaseOf k f y x last) (sym is)
                (subst (λ bs. CaseOf (record { ranks = k.ranks; journal = k.journal; boxes = bs }) f y kind last)
                (sym same_boxes) (does k.ranks k.journal)),
          );
          then = then;
          other = then;
          ranks = ap (λ (n : Cluster). n.ranks) same;
          others = refl;
          alike = rank_itself then then.clock;
          boxes = sym (ap (λ (n : Cluster). n.boxes) same);
          hubs = first ∙ ap (λ (n : Cluster). (outcome (hub_of n.journal) r q).1) (sym same);
          reply = ap (λ (n : Cluster). (outcome (hub_of n.journal) r q).0) same;
        }

    calls : (answer : Reply) (p : Request) → asked y f.hart ≡ Ask.Hub p → answer ≡ reply_in c.journal f.rank p
        → m ≡ record {
          ranks = slice_set c.ranks f.rank (told y f.hart (Answer.Reply answer) f.stamp);
          journal = with_entry c.journal
              (record { rank = f.rank; hart = f.hart; clock = y.clock; stamp = f.stamp; request = p; reply = answer });
          boxes = c.boxes;
        }
        → Second k
    calls answer p asks is same =
        let mine : Entry =
        record { rank = f.rank; hart = f.hart; clock = y.clock; stamp = f.stamp; request = p; reply = answer } in
        let called_so : hub_of m.journal ≡ (outcome hub f.rank p).1 =
        ap (λ (n : Cluster). hub_of n.journal) same ∙ hub_entry c.journal mine in
        let both = behind p called_so in
        let stamp = max y.clock (k.journal).clock + 1 in
        let step : Step =
        record { rank = f.rank; hart = f.hart; stamp = stamp; kind = Kind.Hub (reply_in k.journal f.rank p) } in
        let theirs : Entry = record {
          rank = f.rank;
          hart = f.hart;
          clock = y.clock;
          stamp = stamp;
          request = p;
          reply = reply_in k.journal f.rank p;
        } in
        let replied : reply_in k.journal f.rank p ≡ answer =
        reply_is k.journal f.rank p ∙ ap (λ h. (outcome h f.rank p).0) first ∙ ap (λ (o : Reply × HubView). o.0) both
        ∙ sym (reply_is c.journal f.rank p) ∙ sym is in
        let then = told y f.hart (Answer.Reply answer) f.stamp in
        record {
          step = step;
          rank = refl;
          hart = refl;
          last = called k step y p;
          leads = (y, there, hart, (p, asks, refl, refl, refl));
          then = then;
          other = told y f.hart (Answer.Reply (reply_in k.journal f.rank p)) stamp;
          ranks = ap (λ (n : Cluster). n.ranks) same;
          others = refl;
          alike = subst (λ x. AlikeRanks no_renaming then x)
              (sym (ap (λ a. told y f.hart (Answer.Reply a) stamp) replied
              ∙ told_stamped y f.hart (Answer.Reply answer) f.stamp stamp))
              (rank_itself then stamp);
          boxes = same_boxes ∙ sym (ap (λ (n : Cluster). n.boxes) same);
          hubs = hub_entry k.journal theirs ∙ ap (λ h. (outcome h f.rank p).1) first
              ∙ ap (λ (o : Reply × HubView). o.1) both;
          reply = exchange p called_so;
        }

    second : (kind : Kind) → f.kind ≡ kind → CaseOf c f y kind m → Second k
    second Kind.Plain is t = beside Kind.Plain is _ _ t.2 (λ ranks journal. (t.0, t.1, refl))
    second Kind.Local is t = beside Kind.Local is _ _ t.2 (λ ranks journal. (t.0, t.1, refl))
    second Kind.Held is t = beside Kind.Held is _ _ t.2 (λ ranks journal. (t.0, t.1, refl))
    second Kind.Idle is t = beside Kind.Idle is _ _ t.2 (λ ranks journal. (t.0, t.1, refl))
    second (Kind.Hub answer) is t = calls answer t.0 t.1 t.2 t.4
    second Kind.Ready is t =
        beside Kind.Ready is _ _ t.8 (λ ranks journal. (t.0, t.1, t.2, t.3, t.4, t.5, t.6, t.7, refl))
    second Kind.Take is t =
        beside Kind.Take is _ _ t.8 (λ ranks journal. (t.0, t.1, t.2, t.3, t.4, t.5, t.6, t.7, refl))
    second Kind.Miss is t = beside Kind.Miss is _ _ t.4 (λ ranks journal. (t.0, t.1, t.2, t.3, refl))
    second Kind.Freed is t = beside Kind.Freed is _ _ t.7 (λ ranks journal. (t.0, t.1, t.2, t.3, t.4, t.5, t.6, refl))

-- ---- the rank asks so still, whatever turns others take

module _ (plans : Plans) (r : ℕ) (rank : Rank) (q : Request) where
  record Asks (here : Node) : Type 0 where
    stands : slice_get here.cluster.ranks r ≡ Some rank
    asks : asked rank (plans r (here.had r)) ≡ Ask.Hub q
    ready : IsReady q (outcome (hub_of here.cluster.journal) r q).0
    sound : AreSound here.cluster.boxes

  -- the turn of the rank itself
  abbrev step_at : Node → Step
  step_at here = record {
    rank = r;
    hart = plans r (here.had r);
    stamp = max rank.clock here.cluster.journal.clock + 1;
    kind = Kind.Hub (reply_in here.cluster.journal r q);
  }

  abbrev next_of : Node → Cluster
  next_of here = called here.cluster (step_at here) rank q

  next_hub : (here : Node) → hub_of (next_of here).journal ≡ (outcome (hub_of here.cluster.journal) r q).1
  next_hub here = hub_entry here.cluster.journal (record {
    rank = r;
    hart = plans r (here.had r);
    clock = rank.clock;
    stamp = max rank.clock here.cluster.journal.clock + 1;
    request = q;
    reply = reply_in here.cluster.journal r q;
  })

  next_posts : (here : Node) → Asks here → posts (next_of here) ≡ posts here.cluster
  next_posts here at =
      ap (λ (h : HubView). length h.board.lines) (next_hub here)
      ∙ ap length (same_lines (hub_of here.cluster.journal) r q (ready_from (hub_of here.cluster.journal) r q at.ready))

  goes_next : (here : Node) → Asks here → Goes plans r here (node_of (next_of here) (one_more here.had r))
  goes_next here at = record {
    step = step_at here;
    rank = refl;
    hart = refl;
    leads = (rank, at.stands, has_hart rank (plans r (here.had r)) (subst IsLive (sym at.asks) tt), (q, at.asks, refl, refl, refl));
    had = refl;
  }

  module _ (s : ℕ) (here mid : Node) (apart : s ≢ r) (goes : Goes plans s here mid) (at : Asks here)
      (room : posts here.cluster < 65536) where
    abbrev f : Step
    f = goes.step

    other_rank : f.rank ≢ r
    other_rank same = apart (sym goes.rank ∙ same)

    along : Second r q here.cluster mid.cluster f (goes.leads).0 other_rank at.ready room (next_of here)
    along =
        let y = goes.leads in
        second r q here.cluster mid.cluster f y.0 other_rank at.ready room (next_of here) (next_hub here) refl
        (get-set_other here.cluster.ranks r f.rank _ (λ same. other_rank (sym same)) ∙ y.1) y.2 f.kind refl y.3

    asks_on : Asks mid
    asks_on =
        let y = goes.leads in
        record {
          stands = ap (λ xs. slice_get xs r) along.ranks
              ∙ get-set_other here.cluster.ranks f.rank r along.then other_rank ∙ at.stands;
          asks = ap (λ n. asked rank (plans r n)) (ap (λ had. had r) goes.had ∙ had_other here.had s r apart) ∙ at.asks;
          ready = subst (IsReady q) (sym along.reply) at.ready;
          sound = sound_case here.cluster mid.cluster f y.0 f.kind y.3 at.sound;
        }

    -- behind both turns, whichever was first
    module _ (new : Node) (last_turn : Goes plans r mid new) where
      abbrev e : Step
      e = last_turn.step

      same_place : mid.had r ≡ here.had r
      same_place = ap (λ had. had r) goes.had ∙ had_other here.had s r apart

      same_hart : plans r (here.had r) ≡ e.hart
      same_hart = ap (plans r) (sym same_place) ∙ sym last_turn.hart

      there : slice_get mid.cluster.ranks e.rank ≡ Some rank
      there = ap (slice_get mid.cluster.ranks) last_turn.rank ∙ asks_on.stands

      -- where its turn leads is told by what it asks
      leads_to : new.cluster ≡ called mid.cluster e rank q
      leads_to =
          (subst (λ a. IsTurn mid.cluster e rank a new.cluster) (ap (asked rank) last_turn.hart ∙ asks_on.asks)
          (turns_law mid.cluster new.cluster e rank there last_turn.leads)).1

      same_reply : reply_in here.cluster.journal r q ≡ reply_in mid.cluster.journal e.rank q
      same_reply =
          reply_is here.cluster.journal r q ∙ sym along.reply ∙ sym (reply_is mid.cluster.journal r q)
          ∙ ap (λ k. reply_in mid.cluster.journal k q) (sym last_turn.rank)

      abbrev told_last : Rank
      told_last = told rank e.hart (Answer.Reply (reply_in mid.cluster.journal e.rank q)) e.stamp

      abbrev told_first : Rank
      told_first = told rank (plans r (here.had r)) (Answer.Reply (reply_in here.cluster.journal r q)) (step_at here).stamp

      told_both : AlikeRanks no_renaming told_last told_first
      told_both =
          let stamp = (step_at here).stamp in
          let is : told_first ≡ at_clock told_last stamp =
          ap (λ h. told rank h (Answer.Reply (reply_in here.cluster.journal r q)) stamp) same_hart
          ∙ ap (λ a. told rank e.hart (Answer.Reply a) stamp) same_reply
          ∙ told_stamped rank e.hart (Answer.Reply (reply_in mid.cluster.journal e.rank q)) e.stamp stamp in
          subst (λ x. AlikeRanks no_renaming told_last x) (sym is) (rank_itself told_last stamp)

      ranks_alike : AreEach (AlikeRanks no_renaming) (called mid.cluster e rank q).ranks along.last.ranks
      ranks_alike =
          let old = here.cluster.ranks in
          let itself : AreEach (AlikeRanks no_renaming) old old =
          record { many = refl; each = λ i x at. (x, at, rank_itself x x.clock) } in
          let left : slice_set mid.cluster.ranks e.rank told_last ≡ slice_set (slice_set old f.rank along.then) r told_last =
          ap (λ k. slice_set mid.cluster.ranks k told_last) last_turn.rank
          ∙ ap (λ xs. slice_set xs r told_last) along.ranks in
          let right : along.last.ranks ≡ slice_set (slice_set old f.rank along.other) r told_first =
          along.others ∙ set_apart old r f.rank told_first along.other (λ same. other_rank (sym same)) in
          subst (λ xs. AreEach (AlikeRanks no_renaming) xs along.last.ranks) (sym left)
          (subst (λ ys. AreEach (AlikeRanks no_renaming) (slice_set (slice_set old f.rank along.then) r told_last) ys)
          (sym right)
          (each_set (AlikeRanks no_renaming) (slice_set old f.rank along.then) (slice_set old f.rank along.other) r
          told_last told_first
          (each_set (AlikeRanks no_renaming) old old f.rank along.then along.other itself along.alike) told_both))

      hubs_alike : AlikeHubs no_renaming (hub_of (called mid.cluster e rank q).journal) (hub_of along.last.journal)
      hubs_alike =
          let new_hub : hub_of (called mid.cluster e rank q).journal
          ≡ (outcome (hub_of mid.cluster.journal) r q).1 =
          hub_entry mid.cluster.journal (record {
            rank = e.rank;
            hart = e.hart;
            clock = rank.clock;
            stamp = e.stamp;
            request = q;
            reply = reply_in mid.cluster.journal e.rank q;
          })
          ∙ ap (λ k. (outcome (hub_of mid.cluster.journal) k q).1) last_turn.rank in
          subst (λ h. AlikeHubs no_renaming h (hub_of along.last.journal)) (along.hubs ∙ sym new_hub)
          (hub_itself (hub_of along.last.journal))

      boxes_alike : AreEach AlikeBoxes mid.cluster.boxes along.last.boxes
      boxes_alike = subst (λ bs. AreEach AlikeBoxes mid.cluster.boxes bs) (sym along.boxes) (record {
        many = refl;
        each = λ i box at. (box, at, asks_on.sound i box at);
      })

      could_be_first : IsFirst plans r s here new
      could_be_first = record {
        mid = node_of (next_of here) (one_more here.had r);
        last = node_of along.last (one_more (one_more here.had r) s);
        first = goes_next here at;
        then = record {
          step = along.step;
          rank = along.rank ∙ goes.rank;
          hart = along.hart ∙ goes.hart ∙ ap (plans s) (sym (had_other here.had r s (λ same. apart (sym same))));
          leads = along.leads;
          had = refl;
        };
        alike = subst (λ c. AreAlike c along.last) (sym leads_to)
            (no_renaming, record { ranks = ranks_alike; hubs = hubs_alike; boxes = boxes_alike });
      }

  module _ (most : ℕ) (below : most < 65536) where
    asks_still : (ss : List ℕ) (here there : Node) → AreOthers r ss → GoesOn plans ss here there
        → posts there.cluster ≤ most → Asks here → Asks there
    asks_still [] here there others walk within at = subst Asks (sym walk) at
    asks_still (s ∷ ss) here there others walk within at =
        let one = turn_posts plans s here walk.0 walk.1 in
        let more = walk_posts plans ss walk.0 there walk.2 in
        asks_still ss walk.0 there others.1 walk.2 within
        (asks_on s here walk.0 others.0 walk.1 at (omega (arith, one, more, within, below)))

    no_end : (here : Node) → Asks here → IsEnd plans here.cluster → ⊥
    no_end here at end = elim (end r (here.had r) rank at.stands) [
      | inl stopped ↦
          let idle = ((rank_vain.stopped) rank (plans r (here.had r)) 0 Answer.Alone stopped).0 in
          let e : Ask.Idle ≡ Ask.Hub q = sym idle ∙ at.asks in
          absurd (cc)
      | inr waits ↦
          let vain : reply_in here.cluster.journal r q ≡ reply.NotYet =
          subst (IsInVain here.cluster r) at.asks waits.1 in
          not_vain q (subst (IsReady q) (sym (reply_is here.cluster.journal r q) ∙ vain) at.ready)
    ]

    sure : (here : Node) → Asks here → IsSure plans most here r
    sure here at = record {
      goes = λ ss there others walk within.
          let asks = asks_still ss here there others walk within at in
          let same = next_posts there asks in
          let few : posts there.cluster ≤ most = within in (
            node_of (next_of there) (one_more there.had r),
            goes_next there asks,
            omega (arith, same, few),
          );
      asks = λ ss there others walk within x is.
          let now = asks_still ss here there others walk within at in
          let same : Ask.Hub q ≡ asked x (plans r (there.had r)) =
          sym now.asks ∙ ap (λ y. asked y (plans r (there.had r))) (same_Some rank x (sym now.stands ∙ is)) in
          subst (IsSureAsk there.cluster r) same
          (subst (IsReady q) (sym (reply_is there.cluster.journal r q)) now.ready);
      no_end = λ ss there others walk within. no_end there (asks_still ss here there others walk within at);
      before = λ ss there mid new s others walk apart goes last within.
          let one = turn_posts plans s there mid goes in
          let two = turn_posts plans r mid new last in
          let most_posts : posts new.cluster ≤ most = within in
          let asks = asks_still ss here there others walk (omega (arith, one, two, most_posts)) at in
          could_be_first s there mid apart goes asks (omega (arith, one, two, most_posts, below)) new last;
    }

pub sure_hub_law : SureHubLaw
sure_hub_law plans most here r rank q below alike stands asks ready =
    sure plans r rank q most below here (record {
      stands = stands;
      asks = asks;
      ready = subst (IsReady q) (reply_is here.cluster.journal r q) ready;
      sound = sound_of here.cluster alike;
    })
