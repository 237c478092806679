-- Where each send waits or goes on, an end is one at which nobody goes on anyway, or all ranks together need buffers: what a
-- rank waits for is up to ranks of the image.
use Rattle.std.proofs.Common.{◌≡◌, ℕ, zero, suc, ◌⊎◌, inl, inr, List, [], ◌∷◌, length, Bool, true, false, not, Option, Some, None, refl, sym, ap, ◌∙◌, subst, arith, rules}
use Rattle.std.specs.Prelude.{◌<◌, ◌≤◌, ◌==◌, ◌&&◌, All, IsTrue, cond, get_or, is_some, nat_lt}
use Rattle.std.specs.List.{list_all, position_or_len, slice_get}
use Rattle.std.proofs.lemmas.Bool.{and_parts, cases_lt, eq-eqb, eqb-true, or_left, or_right}
use Rattle.std.proofs.lemmas.List.Elements.{All-get_or, All-head, All-nil, All-push, All-tail, All-weaker}
use Rattle.std.proofs.lemmas.List.Folds.{list_any-append}
use Rattle.std.proofs.lemmas.List.Sums.{passes_at_first}
use Rattle.std.proofs.lemmas.Option.{same_Some, slice_get_cases, slice_get_within}
use Rattle.rv_image_types.specs.Image.{IsCommunicator, IsImage, IsLink}
use Rattle.rv_image_types.specs.declared.images.ImageParts.{ImageParts}
use Rattle.rv_image_types.specs.declared.images.Link.{Link}
use Rattle.mp_types.specs.declared.requests.Request.{Request}
use Rattle.mp_types.specs.declared.requests.Request.TheVariants as request
use Rattle.mp_types.specs.declared.replies.Reply.{Reply}
use Rattle.mp_types.specs.declared.replies.Reply.TheVariants.{NotYet}
use Rattle.mp_match.specs.declared.posts.Line.{Line}
use Rattle.mp_match.specs.declared.posts.Post.{Post}
use Rattle.mp_match.specs.declared.posts.Post.TheVariants as post
use Rattle.mp_match.specs.declared.posts.Selection.{Selection}
use Rattle.mp_match.specs.declared.posts.Sent.{Sent}
use Rattle.mp_match.specs.Board.{Board, line_of}
use Rattle.mp_match.specs.Pairs.{add, admits}
use Rattle.mp_match.proofs.Lines.{Look, is_given, is_new, is_old, look}
use Rattle.mp_transfers.specs.Inits.{is_receiver, is_to}
use Rattle.mp_hub.specs.Hub.{Call, HubView, are_distinct, hub_after, hub_at_start, is_known, is_ready, reply_of, selecting, sending}
use Rattle.mp_hub.proofs.BoardKept.{all_lines, collect_lines}
use Rattle.mp_hub.proofs.Outcomes.{Comes as ComesTo, IsReady, comes, is_full, is_gathered, is_got, is_nothing, is_posted, is_sent, post_envelope}
use Rattle.mp_hub.proofs.Transfers.{links_on}
use Rattle.mp_wait_laws.specs.Waits.{IsUpTo, OnlyOf, could_pair, could_send, is_from, sends_over}
use Rattle.mp_wait_laws.proofs.Vain.{vain_law}
use Rattle.cl_journal.specs.Journal.{calls_of}
use Rattle.cl_calls.specs.declared.sites.Site.{Site}
use Rattle.cl_calls.specs.Site.{member, members, position_of}
use Rattle.cl_state.specs.declared.asking.Ask.{Ask}
use Rattle.cl_state.specs.declared.asking.Ask.TheVariants as ask
use Rattle.cl_state.specs.Asked.{asked}
use Rattle.cl_state.specs.Rank.{Rank, below, loaded, site_of}
use Rattle.cl_state.specs.Told.{told}
use Rattle.cl_state.proofs.Moves.{told_at}
use Rattle.cl_state_laws.specs.Vain.{IsStopped, mode_of}
use Rattle.cl_deeds.specs.Alone.{IsAlone}
use Rattle.cl_deeds.specs.Deeds.{Act, Deed, Suits, answer_of}
use Rattle.cl_machine.specs.declared.steps.Step.{Step}
use Rattle.cl_machine.specs.Cluster.{Cluster, IsRun, IsStep, loaded_cluster}
use Rattle.cl_machine.specs.Journal.{Journal, reply_in}
use Rattle.cl_machine.specs.Product.{entry_for}
use Rattle.cl_machine.specs.ProductSteps.{JournalMoves}
use Rattle.cl_deadlock_laws.specs.Stuck.{AsksInVain, IsStuckHart, is_among, is_member}
use Rattle.cl_deadlock_laws.proofs.Reached.{Comes, comes_on, comes_reached, deed_of, same_harts, same_site}
use Rattle.cl_order_laws.specs.Alike.{hub_of}
use Rattle.cl_order_laws.specs.Closed.{IsEnd, IsInVain, Plans, WaitsInVain}
use Rattle.cl_order_laws.proofs.Walks.{hub_entry}
use Rattle.cl_rest_laws.specs.Rests.{MayGoOn, rests}
use Rattle.cl_rest_laws.specs.Buffering.{NeedBuffers, RestsAmong}
use Rattle.cl_rest_laws.specs.Ends.{IsEndWhereSendsWait}
use Rattle.cl_rest_laws.specs.Laws.{EndLaw}
use Rattle.cl_rest_laws.proofs.Resting.{rest_law, rests_on}
use Rattle.cl_rest_laws.proofs.Targets.{AreTo, none_open, sends_to_rank, to_kept}

-- ---- numbers below n

all_below : (n : ℕ) → All (λ k. k < n) (below n)
all_below zero = All-nil (λ k. k < 0)
all_below (suc n) =
    All-push (λ k. k < suc n) (below n) n
    (All-weaker (λ k. k < n) (λ k. k < suc n) (λ k low. omega (arith, low)) (below n) (all_below n)) (omega arith)

among_below : (n k : ℕ) → k < n → is_among (below n) k ≡ true
among_below zero k low = absurd (omega (arith, low))
among_below (suc n) k low =
    list_any-append (λ x. x == k) (below n) (n ∷ []) ∙ elim (cases_lt k n) [
      | inl less ↦ or_left (is_among (below n) k) _ (among_below n k less)
      | inr more ↦
          or_right (is_among (below n) k) _
          (or_left (n == k) false (eq-eqb n k (omega (arith, low, more))))
    ]

-- one of them is the one or each is the other, where each is either
one_or_each : (A B : ℕ → Type 0) (n : ℕ) → ((k : ℕ) → k < n → A k ⊎ B k)
    → ((k : ℕ) × (k < n) × B k) ⊎ ((k : ℕ) → k < n → A k)
one_or_each A B zero either = inr (λ k low. absurd (omega (arith, low)))
one_or_each A B (suc n) either = elim (one_or_each A B n (λ k low. either k (omega (arith, low)))) [
  | inl one ↦ (let low = one.1 in inl (one.0, omega (arith, low), one.2))
  | inr each ↦ elim (either n (omega arith)) [
    | inr is ↦ inl (n, omega arith, is)
    | inl last ↦ inr (λ k low. elim (cases_lt k n) [
      | inl less ↦ each k less
      | inr more ↦ (let same : n ≡ k = omega (arith, low, more) in subst A same last)
    ])
  ]
]

-- one of them doesn't pass it, if not all do
one_not : (p : ℕ → Bool) (ks : List ℕ) → not (list_all p ks) ≡ true
    → (i : ℕ) × (k : ℕ) × (slice_get ks i ≡ Some k) × (p k ≡ false)
one_not p [] is = absurd (cc)
one_not p (x ∷ ks) is = go (p x) refl is (one_not p ks)
  where
    go : (b : Bool) → p x ≡ b → not (b && list_all p ks) ≡ true
        → (not (list_all p ks) ≡ true → (i : ℕ) × (k : ℕ) × (slice_get ks i ≡ Some k) × (p k ≡ false))
        → (i : ℕ) × (k : ℕ) × (slice_get (x ∷ ks) i ≡ Some k) × (p k ≡ false)
    go true e is more = (let one = more is in (suc one.0, one.1, one.2, one.3))
    go false e is more = (0, x, refl, e)

-- ---- the ranks of an image

get_low : (n : ℕ) (xs : List ℕ) (i : ℕ) → 1 ≤ n → All (λ k. k < n) xs → get_or xs i 0 < n
get_low n [] i some all = some
get_low n (x ∷ xs) zero some all = All-head (λ k. k < n) x xs all
get_low n (x ∷ xs) (suc i) some all = get_low n xs i some (All-tail (λ k. k < n) x xs all)

-- one who has a place has it among the members
inside_of : (i m : ℕ) → is_some (cond (nat_lt i m) (Some i) None) ≡ true → i < m
inside_of i m its = search (rules, its)

member_low : (n : ℕ) (xs : List ℕ) (k : ℕ) → All (λ x. x < n) xs → is_some (position_of k xs) ≡ true → k < n
member_low n xs k all is =
    let i = position_or_len (λ x. x == k) xs in
    let inside : i < length xs = inside_of i (length xs) is in
    let here : get_or xs i 0 ≡ k = eqb-true (get_or xs i 0) k (passes_at_first (λ x. x == k) xs 0 inside) in
    subst (λ x. x < n) here (All-get_or (λ x. x < n) xs i 0 inside all)

module _ (image : ImageParts) (is_image : IsImage image) where
  abbrev n : ℕ
  n = image.ranks

  listed : (cs : List (List ℕ)) (i : ℕ) → All (IsCommunicator n) cs → All (λ k. k < n) (get_or cs i [])
  listed [] i all = All-nil (λ k. k < n)
  listed (c ∷ cs) zero all = (All-head (IsCommunicator n) c cs all).ranks_there
  listed (c ∷ cs) (suc i) all = listed cs i (All-tail (IsCommunicator n) c cs all)

  -- the members of a communicator are ranks
  members_low : (r comm : ℕ) → All (λ k. k < n) (members (site_of image r) comm)
  members_low r zero = all_below n
  members_low r (suc i) = listed image.comms i is_image.comms

  named_low : (r comm place : ℕ) → member (site_of image r) comm place < n
  named_low r comm place = get_low n (members (site_of image r) comm) place is_image.has_ranks (members_low r comm)

  -- and so are the ends of a link
  link_low : (ls : List Link) (i : ℕ) (l : Link) → All (IsLink n) ls → slice_get ls i ≡ Some l → IsLink n l
  link_low [] i l all there = absurd (cc)
  link_low (x ∷ ls) zero l all there =
      (let same : x ≡ l = (cc) in subst (λ y. IsLink n y) same (All-head (IsLink n) x ls all))
  link_low (x ∷ ls) (suc i) l all there = link_low ls i l (All-tail (IsLink n) x ls all) there

  -- ---- the hub's sends are to ranks

  abbrev LinesTo : List Line → Type 0
  LinesTo ms = (i : ℕ) (m : Line) (s : Sent) → slice_get ms i ≡ Some m → m.post ≡ post.Send s → s.dest < n

  one_more : (ms : List Line) (p : Post) → LinesTo ms → ((s : Sent) → p ≡ post.Send s → s.dest < n) → LinesTo (add ms p)
  one_more ms p to new i m s there sends = go (look ms p i m there)
    where
      go : Look ms p i m → s.dest < n
      go (is_new place is) = new s (sym (ap (λ (x : Line). x.post) is) ∙ sends)
      go (is_old here) = to i m s here sends
      go (is_given x here chosen is) = to i x s here (sym (ap (λ (y : Line). y.post) is) ∙ sends)

  called : (h : HubView) (r : ℕ) (q : Request) (a : Reply) (b : Board) → LinesTo h.board.lines
      → ((sync : Bool) (comm dest tag : ℕ) (bytes : List ℕ) → q ≡ request.Send sync comm dest tag bytes → dest < n)
      → ComesTo h r q a b → LinesTo b.lines
  called h r q a b to low (is_nothing plain is) = subst (λ (x : Board). LinesTo x.lines) (sym is) to
  called h r q a b to low (is_full code full is) = subst (λ (x : Board). LinesTo x.lines) (sym is) to
  called h r q a b to low (is_sent sync comm dest tag bytes done asks told is) =
      subst (λ (x : Board). LinesTo x.lines) (sym is)
      (one_more h.board.lines (post.Send (sending r sync comm dest tag bytes)) to
      (λ s same. (let e : sending r sync comm dest tag bytes ≡ s = (cc) in
      subst (λ (x : Sent). x.dest < n) e (low sync comm dest tag bytes asks))))
  called h r q a b to low (is_posted p none plain is) =
      subst (λ (x : Board). LinesTo x.lines) (sym is)
      (one_more h.board.lines p to (λ s same. absurd (let no = sym (ap post_envelope same) ∙ none in cc)))
  called h r q a b to low (is_got c number other ready collects one plain told is) =
      subst (λ ms. LinesTo ms) (sym (ap (λ (x : Board). x.lines) is ∙ collect_lines c number)) (by ready)
    where
      by : IsReady h.board c → LinesTo c.lines
      by (inl same) = subst (λ (x : Board). LinesTo x.lines) (sym same) to
      by (inr posted) =
          subst (λ (x : Board). LinesTo x.lines) (sym posted.1)
          (one_more h.board.lines (post.Receive posted.0) to (λ s same. absurd (cc)))
  called h r q a b to low (is_gathered ns asks told is) =
      subst (λ ms. LinesTo ms) (sym (ap (λ (x : Board). x.lines) is ∙ all_lines r ns h.board)) to

  -- ---- along a run

  abbrev NamesRanks : Site → Type 0
  NamesRanks site = (comm place : ℕ) → member site comm place < n

  open_from : (ds : List Deed) (old new : Rank) → IsAlone old ds new → NamesRanks old.site → AreTo n old.requests
      → AreTo n new.requests
  open_from [] old new run names to = subst (λ (x : Rank). AreTo n x.requests) (sym run) to
  open_from (d ∷ ds) old new run names to =
      open_from ds run.0 new run.2
      (subst (λ (site : Site). NamesRanks site)
      (sym (ap (λ (x : Rank). x.site) ((run.1).4) ∙ (told_at old d.hart (answer_of d.act) d.stamp).site)) names)
      (subst (λ (x : Rank). AreTo n x.requests) (sym (run.1).4)
      (to_kept n old d.hart d.stamp (answer_of d.act) names to))

  -- a rank that came alone asks for sends to ranks
  module _ (r : ℕ) (ds : List Deed) (rank : Rank) (run : IsAlone (loaded image r) ds rank) where
    names_ranks : NamesRanks rank.site
    names_ranks = subst (λ (site : Site). NamesRanks site) (sym (same_site image r ds rank run)) (named_low r)

    asks_low : (hart comm dest tag : ℕ) (sync : Bool) (bytes : List ℕ)
        → asked rank hart ≡ ask.Hub (request.Send sync comm dest tag bytes) → dest < n
    asks_low hart comm dest tag sync bytes asks =
        sends_to_rank n rank hart comm dest tag sync bytes names_ranks
        (open_from ds (loaded image r) rank run (named_low r) (none_open n)) asks

  record AllTo (c : Cluster) : Type 0 where
    came : Comes image c
    lines : LinesTo (hub_of c.journal).board.lines

  lines_on : (old new : Journal) (d : Deed) (s : Rank) (ds : List Deed) → IsAlone (loaded image d.rank) ds s
      → LinesTo (hub_of old).board.lines → (act : Act) → Suits (asked s d.hart) act
      → JournalMoves old (entry_for d act) new → LinesTo (hub_of new).board.lines
  lines_on old new d s ds run to act asks moves = go act asks moves
    where
      same : new ≡ old → LinesTo (hub_of new).board.lines
      same is = subst (λ (j : Journal). LinesTo (hub_of j).board.lines) (sym is) to

      go : (act : Act) → Suits (asked s d.hart) act → JournalMoves old (entry_for d act) new
          → LinesTo (hub_of new).board.lines
      go (Act.Hub clock q answer) asks moves =
          subst (λ (h : HubView). LinesTo h.board.lines) (sym (ap hub_of moves.2 ∙ hub_entry old _))
          (called (hub_of old) d.rank q _ _ to
          (λ sync comm dest tag bytes is. asks_low d.rank ds s run d.hart comm dest tag sync bytes
          (asks ∙ ap (λ (x : Request). ask.Hub x) is))
          (comes (hub_of old) d.rank q))
      go Act.Plain asks moves = same moves
      go Act.Local asks moves = same moves
      go (Act.Ready link part bytes) asks moves = same moves
      go (Act.Take link part gate bytes) asks moves = same moves
      go (Act.Miss link part) asks moves = same moves
      go (Act.Freed link part gate) asks moves = same moves
      go Act.Held asks moves = same moves
      go Act.Idle asks moves = same moves

  to_loaded : AllTo (loaded_cluster image)
  to_loaded = record { came = comes_reached image [] (loaded_cluster image) refl; lines = λ i m s there sends. absurd (cc) }

  to_step : (old : Cluster) (e : Step) (new : Cluster) → AllTo old → IsStep old e new → AllTo new
  to_step old e new to is =
      let p = deed_of old e new is in
      let d = p.0 in
      let goes = p.2 in
      let ran = (to.came).alone d.rank (goes.0).0 (goes.0).2 in
      record {
        came = comes_on image old d new to.came goes;
        lines = lines_on old.journal new.journal d (goes.0).0 ran.0 ran.1 to.lines d.act (((goes.0).3).2) goes.1;
      }

  to_run : (steps : List Step) (old new : Cluster) → AllTo old → IsRun old steps new → AllTo new
  to_run [] old new to run = subst (λ (x : Cluster). AllTo x) (sym run) to
  to_run (e ∷ es) old new to run = to_run es run.0 new (to_step old e run.0 to run.1) run.2

  -- ---- what a rank waits for is up to ranks

  module _ (c : Cluster) (to : AllTo c) where
    abbrev everybody : ℕ → Bool
    everybody = is_among (below (length c.ranks))

    is_rank : (k : ℕ) → k < n → everybody k ≡ true
    is_rank k low =
        among_below (length c.ranks) k (subst (λ m. k < m) (sym (to.came).count) low)

    -- a rank that rests does so until a rank receives
    rests_until : (r hart : ℕ) → rests c r hart ≡ true → RestsAmong (below (length c.ranks)) c r hart
    rests_until r hart is =
        let one = (rest_law.some) c r hart is in
        let on = rests_on c r hart one.0 one.1 in
        record {
          receiver = one.0;
          among = is_rank one.0 (subst (λ k. k < n) on.is_for (to.lines on.place on.line on.what on.there on.sends));
          rests_there = one.1;
        }

    module _ (r : ℕ) (site : Site) (its : site ≡ site_of image r) where
      from_member : (comm k : ℕ) → is_member site comm k ≡ true → everybody k ≡ true
      from_member comm k is =
          is_rank k (member_low n (members (site_of image r) comm) k (members_low r comm)
          (subst (λ (s : Site). is_member s comm k ≡ true) its is))

      senders : (a : Selection) → OnlyOf everybody (could_send (is_member site) a)
      senders a k could = from_member a.comm k (and_parts (admits a.source k) (is_member site a.comm k) could).1

      pairs_at : (o : Option Line) → ((m : Line) (s : Sent) → o ≡ Some m → m.post ≡ post.Send s → s.dest < n)
          → OnlyOf everybody (could_pair (is_member site) o)
      pairs_at None low k could = absurd (cc)
      pairs_at (Some line) low k could = go line.post line.partner (λ s e. low line s refl e) could
        where
          go : (p : Post) (o : Option ℕ) → ((s : Sent) → p ≡ post.Send s → s.dest < n)
              → could_pair (is_member site) (Some (record { post = p; partner = o })) k ≡ true → everybody k ≡ true
          go (post.Send s) o low could =
              is_rank k (subst (λ x. x < n) (eqb-true s.dest k could) (low s refl))
          go (post.Receive a) o low could = senders a k could
          go (post.Claim a) o low could = senders a k could

      pairs : (number : ℕ) → OnlyOf everybody (could_pair (is_member site) (line_of (hub_of c.journal).board number))
      pairs zero = pairs_at None (λ m s e. absurd (cc))
      pairs (suc place) = pairs_at _ (λ m s e. to.lines place m s e)

      over : (link : ℕ) → OnlyOf everybody (sends_over image.links link)
      over link k is = go (slice_get image.links link) refl is
        where
          go : (o : Option Link) → slice_get image.links link ≡ o → is_from k o ≡ true → everybody k ≡ true
          go None there is = absurd (cc)
          go (Some l) there is =
              is_rank k (subst (λ x. x < n) (eqb-true l.from k is)
              (link_low image.links link l is_image.links there).from_there)

      into : (link : ℕ) → OnlyOf everybody (λ k. is_receiver image.links k link)
      into link k is = go (slice_get image.links link) refl is
        where
          go : (o : Option Link) → slice_get image.links link ≡ o → is_to k o ≡ true → everybody k ≡ true
          go None there is = absurd (cc)
          go (Some l) there is =
              is_rank k (subst (λ x. x < n) (eqb-true l.to k is)
              (link_low image.links link l is_image.links there).to_there)

      abbrev links : List Link
      links = c.journal.links

      abbrev calls : List Call
      calls = calls_of c.journal.entries

      up_to : (q : Request) → reply_of links calls r q ≡ NotYet
          → IsUpTo (is_member site) everybody (hub_after links calls) r q
      up_to (request.Collect number) answer = pairs number
      up_to (request.Finished number) answer = pairs number
      up_to (request.Probe comm source tag) answer = senders (selecting r comm source tag)
      up_to (request.Claim comm source tag) answer = senders (selecting r comm source tag)
      up_to (request.All posts) answer =
          let vain = (vain_law links calls r (request.All posts)).1 answer in
          let both =
          and_parts (are_distinct posts && list_all (λ k. is_known (hub_after links calls) r k) posts)
          (not (list_all (λ k. is_ready (hub_after links calls) r k) posts)) vain in
          let one = one_not (λ k. is_ready (hub_after links calls) r k) posts both.1 in
          (one.0, one.1, one.2, one.3, pairs one.1)
      up_to (request.Cut link) answer =
          subst (λ ls. OnlyOf everybody (sends_over ls link))
          (sym (links_on calls (hub_at_start links) ∙ (to.came).links)) (over link)
      up_to (request.Send sync comm dest tag bytes) answer =
          (let vain : false ≡ true = (vain_law links calls r (request.Send sync comm dest tag bytes)).1 answer in absurd (cc))
      up_to (request.Recv now comm source tag) answer =
          (let vain : false ≡ true = (vain_law links calls r (request.Recv now comm source tag)).1 answer in absurd (cc))
      up_to (request.Claimed now message) answer =
          (let vain : false ≡ true = (vain_law links calls r (request.Claimed now message)).1 answer in absurd (cc))
      up_to (request.Init sends comm peer tag parts size) answer =
          (let vain : false ≡ true = (vain_law links calls r (request.Init sends comm peer tag parts size)).1 answer in
          absurd (cc))

      in_vain : (a : Ask) → IsInVain c r a → AsksInVain (below (length c.ranks)) c r site a
      unfolding reply_in
      in_vain (ask.Hub q) vain = (vain, up_to q vain)
      in_vain (ask.Look link part) vain =
          (vain, subst (λ ls. OnlyOf everybody (sends_over ls link)) (sym (to.came).links) (over link))
      in_vain (ask.Freed link part) vain =
          (vain, subst (λ ls. OnlyOf everybody (λ k. is_receiver ls k link)) (sym (to.came).links) (into link))
      in_vain ask.Held vain = tt
      in_vain _ vain = absurd vain

-- ---- the law

module _ (image : ImageParts) (plans : Plans) (c : Cluster) (is_image : IsImage image) (single : image.harts ≡ 1)
    (first : (r k : ℕ) → plans r k ≡ 0) (to : AllTo image is_image c) (ends : IsEndWhereSendsWait plans c) where
  abbrev Held : ℕ → Rank → ℕ → Type 0
  Held r rank hart =
      IsStopped (mode_of rank hart)
      ⊎ (IsStuckHart (below (length c.ranks)) c r rank hart ⊎ RestsAmong (below (length c.ranks)) c r hart)

  one_hart : (r : ℕ) (rank : Rank) → slice_get c.ranks r ≡ Some rank → length rank.harts ≡ 1
  one_hart r rank there =
      (let came = (to.came).alone r rank there in same_harts image r came.0 rank came.1 ∙ single)

  held_at : (r : ℕ) (rank : Rank) (hart : ℕ) → slice_get c.ranks r ≡ Some rank
      → IsStopped (mode_of rank hart) ⊎ (WaitsInVain c r rank hart ⊎ MayGoOn c r rank hart) → Held r rank hart
  held_at r rank hart there (inl is) = inl is
  held_at r rank hart there (inr (inl is)) =
      let came = (to.came).alone r rank there in
      inr (inl (record {
        patient = is.0;
        in_vain = in_vain image is_image c to r rank.site (same_site image r came.0 rank came.1) (asked rank hart) is.1;
      }))
  held_at r rank hart there (inr (inr is)) = inr (inr (rests_until image is_image c to r hart is.0))

  only_hart : (r : ℕ) (rank : Rank) (hart : ℕ) → slice_get c.ranks r ≡ Some rank → hart < length rank.harts
      → plans r 0 ≡ hart
  only_hart r rank hart there low = (let one = one_hart r rank there in let plan = first r 0 in omega (arith, one, low, plan))

  all_held : (r : ℕ) (rank : Rank) (hart : ℕ) → IsTrue (is_among (below (length c.ranks)) r)
      → slice_get c.ranks r ≡ Some rank → hart < length rank.harts → Held r rank hart
  all_held r rank hart among there low =
      subst (λ x. Held r rank x) (only_hart r rank hart there low) (held_at r rank (plans r 0) there (ends r 0 rank there))

  -- a rank whose hart has to go on, if its send doesn't wait
  record GoesOn (r : ℕ) : Type 0 where
    rank : Rank
    there : slice_get c.ranks r ≡ Some rank
    goes_on : MayGoOn c r rank 0

  need : (r : ℕ) → r < length c.ranks → GoesOn r → NeedBuffers (below (length c.ranks)) c
  need r low is = record {
    held = all_held;
    some = record {
      r = r;
      rank = is.rank;
      hart = 0;
      among = among_below (length c.ranks) r low;
      there = is.there;
      inside = (let one = one_hart r is.rank is.there in omega (arith, one));
      rests_there = rests_until image is_image c to r 0 is.goes_on.0;
      else_ready = is.goes_on.1;
    };
  }

  -- and one whose hart doesn't
  abbrev Ends : ℕ → Type 0
  Ends r =
      (k : ℕ) (rank : Rank) → slice_get c.ranks r ≡ Some rank
      → IsStopped (mode_of rank (plans r k)) ⊎ WaitsInVain c r rank (plans r k)

  ends_at : (r : ℕ) (rank : Rank) → slice_get c.ranks r ≡ Some rank
      → IsStopped (mode_of rank 0) ⊎ WaitsInVain c r rank 0
      → Ends r
  ends_at r rank there is k other also =
      subst (λ h. IsStopped (mode_of other h) ⊎ WaitsInVain c r other h) (sym (first r k))
      (subst (λ (x : Rank). IsStopped (mode_of x 0) ⊎ WaitsInVain c r x 0) (same_Some rank other (sym there ∙ also)) is)

  either : (r : ℕ) → r < length c.ranks → Ends r ⊎ GoesOn r
  either r low = elim ((slice_get_cases c.ranks r).1) [
    | inl here ↦
        elim (subst (λ h. IsStopped (mode_of here.0 h) ⊎ (WaitsInVain c r here.0 h ⊎ MayGoOn c r here.0 h)) (first r 0)
        (ends r 0 here.0 here.2)) [
          | inl stopped ↦ inl (ends_at r here.0 here.2 (inl stopped))
          | inr more ↦ elim more [
            | inl waits ↦ inl (ends_at r here.0 here.2 (inr waits))
            | inr is ↦ inr (record { rank = here.0; there = here.2; goes_on = is })
          ]
        ]
    | inr past ↦ (let far = past.0 in absurd (omega (arith, low, far)))
  ]

  law : IsEnd plans c ⊎ NeedBuffers (below (length c.ranks)) c
  law = elim (one_or_each Ends GoesOn (length c.ranks) either) [
    | inl one ↦ inr (need one.0 one.1 one.2)
    | inr each ↦ inl (λ r k rank there. each r (slice_get_within c.ranks r rank there) k rank there)
  ]

pub end_law : EndLaw
end_law image plans c is_image single first reached ends =
    law image plans c is_image single first
    (to_run image is_image reached.0 (loaded_cluster image) c (to_loaded image is_image) reached.1) ends
