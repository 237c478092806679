-- Ranks on the way, and once all has arrived, before and behind a turn.
use Rattle.std.proofs.Common.{◌≡◌, ◌∙◌, ℕ, suc, ◌<◌, ◌⊎◌, refl, sym, ap, subst, arith, Bool, true, false, List, [], ◌∷◌, length, Some}
use Rattle.std.specs.Prelude.{map, not}
use Rattle.std.specs.List.{slice_get, slice_set}
use Rattle.rv_image_types.specs.declared.images.ImageParts.{ImageParts}
use Rattle.rv_memory.specs.Memory.{Memory}
use Rattle.mp_types.specs.declared.replies.Reply.{Reply}
use Rattle.mp_types.specs.declared.replies.Reply.TheVariants as reply
use Rattle.mp_types.specs.declared.requests.Request.{Request}
use Rattle.mp_match.specs.declared.posts.Line.{Line}
use Rattle.mp_match.specs.declared.posts.Post.TheVariants.{Receive, Send}
use Rattle.mp_request.specs.Table.{Table, request_at}
use Rattle.mp_probe.specs.Claims.{next_number}
use Rattle.mp_hub.specs.Hub.{selecting, sending}
use Rattle.mp_way_laws.specs.Way.{WayView}
use Rattle.mp_way_laws.specs.Answers.{reply_on_way}
use Rattle.cl_calls.specs.declared.calls.Call.TheVariants as call
use Rattle.cl_calls.specs.declared.sites.Site.{Site}
use Rattle.cl_calls.specs.Handles.{handles_in}
use Rattle.cl_calls.specs.Needs.{array_at}
use Rattle.cl_state.specs.declared.asking.Answer.{Answer}
use Rattle.cl_state.specs.declared.asking.Answer.TheVariants as answer
use Rattle.cl_state.specs.declared.asking.Ask.{Ask}
use Rattle.cl_state.specs.declared.asking.Doing.{Doing}
use Rattle.cl_state.specs.declared.asking.Doing.TheVariants.{Go}
use Rattle.cl_state.specs.Asked.{asked, doing, part_of}
use Rattle.cl_state.specs.Pending.{pending_of}
use Rattle.cl_state.specs.Rank.{Rank}
use Rattle.cl_state.specs.Several.{pendings}
use Rattle.cl_state.specs.Told.{told}
use Rattle.cl_state.proofs.Moves.{told_at}
use Rattle.cl_machine.specs.Cluster.{Cluster}
use Rattle.cl_first_laws.specs.Below.{NamesBelow}
use Rattle.cl_reduction_laws.specs.Clusters.{IsWithin, NamesRightly, Search}
use Rattle.cl_reduction_laws.specs.Complete.{polls_complete, polls_complete_in}
use Rattle.cl_reduction_laws.proofs.Awake.{map_set, mapped}
use Rattle.cl_reduction_laws.proofs.Naming.{below_if_right}
use Rattle.cl_way_laws.specs.Met.{is_met, met, met_by, met_table}
use Rattle.cl_contests.specs.Waiting.{OnlyWaits}
use Rattle.cl_way_laws.proofs.Before.{table_before}
use Rattle.cl_way_laws.proofs.LaterSend.{posted_is}
use Rattle.cl_way_laws.proofs.MetAsks.{DoesSame, doing_met}
use Rattle.cl_way_laws.proofs.MetKept.{met_kept, met_made}
use Rattle.cl_way_laws.proofs.MetNeeds.{Gathers, WaitsForMet, does_or_waits}
use Rattle.cl_way_laws.proofs.MetRows.{tells_met}
use Rattle.cl_way_laws.proofs.MetTold.{Unmet}
use Rattle.cl_way_laws.proofs.Named.{NamesApart, NamesBefore, Tells, apart_more, told_more}
use Rattle.cl_way_laws.proofs.Posting.{PostsAs, a_receive, a_send, lines_behind, lines_now, many_now, nothing}
use Rattle.cl_way_laws.proofs.States.{WayState}
use Rattle.cl_way_laws.proofs.SyncSends.{IsSsend, LeavesRequest, SendsNow, opens_met}

-- ---- one rank

-- told something, it has the number that it had
pub number_told : (rank : Rank) (hart : ℕ) (a : Answer) (stamp : ℕ)
    → (told rank hart a stamp).site.number ≡ rank.site.number
number_told rank hart a stamp = ap (λ s. s.number) (told_at rank hart a stamp).site

-- ranks of one number are the same by the posts of that number
met_number : (lines : List Line) (r : ℕ) (rank : Rank) → rank.site.number ≡ r
    → met lines rank ≡ met_by (is_met lines r) rank
met_number lines r rank number = ap (λ k. met_by (is_met lines k) rank) number

-- where a call made a post, a rank that names only posts that were made before is as before
pub still_met : (w : WayView) (r : ℕ) (q : Request) → PostsAs w r q → (rank : Rank)
    → NamesBelow (length (lines_now w)) (met (lines_now w) rank)
    → met (lines_behind w r q) rank ≡ met (lines_now w) rank
still_met w r q (nothing same none) rank names = ap (λ ls. met ls rank) same
still_met w r q (a_send sync comm dest tag bytes is same posted) rank names =
    ap (λ ls. met ls rank) same ∙ met_kept (lines_now w) (Send (sending r sync comm dest tag bytes)) rank names
still_met w r q (a_receive now comm source tag is same number) rank names =
    ap (λ ls. met ls rank) same ∙ met_kept (lines_now w) (Receive (selecting r comm source tag)) rank names

-- ---- what it does

-- where the requests are the same, it does the same
same_again : (d e : ℕ → Bool) (memory : Memory) (table : Table) → met_table e table ≡ met_table d table → (does : Doing)
    → DoesSame d memory table does → DoesSame e memory table does
same_again d e memory table is (Go (call.Test c)) same = ap (λ t. pending_of (request_at t c.handle)) is ∙ same
same_again d e memory table is (Go (call.Wait c)) same = ap (λ t. pending_of (request_at t c.handle)) is ∙ same
same_again d e memory table is (Go (call.Testall s)) same =
    ap (λ t. pendings t (handles_in memory (array_at s.array s.count))) is ∙ same
same_again d e memory table is (Go (call.Waitall s)) same =
    ap (λ t. pendings t (handles_in memory (array_at s.array s.count))) is ∙ same
same_again d e memory table is _ same = tt

-- it does the same once all has arrived, or waits for sends that are complete then
same_or_waits : (d : ℕ → Bool) (rank : Rank) (hart : ℕ) → polls_complete (met_by d rank) hart ≡ false
    → DoesSame d rank.memory rank.requests (doing rank.site (part_of rank hart))
    ⊎ (WaitsForMet d rank.requests (doing rank.site (part_of rank hart))
    ⊎ Gathers d rank.memory rank.requests (doing rank.site (part_of rank hart)))
same_or_waits d rank hart polls =
    does_or_waits d rank.memory rank.requests (doing rank.site (part_of rank hart))
    (ap (polls_complete_in rank.memory (met_table d rank.requests)) (sym (doing_met d rank.site (part_of rank hart)))
    ∙ polls)

-- in a cluster in which the rank asks within the patterns: it is here alone that no rank polls what was complete as it was made
pub same_within : (search : Search) → OnlyWaits search → (c : Cluster) (r : ℕ) → IsWithin search c r → (lines : List Line)
    (x : Rank)
    → slice_get c.ranks r ≡ Some (met lines x)
    → DoesSame (is_met lines x.site.number) x.memory x.requests (doing x.site (part_of x (search.harts r)))
    ⊎ (WaitsForMet (is_met lines x.site.number) x.requests (doing x.site (part_of x (search.harts r)))
    ⊎ Gathers (is_met lines x.site.number) x.memory x.requests (doing x.site (part_of x (search.harts r))))
same_within search waits_only c r within lines x here =
    same_or_waits (is_met lines x.site.number) x (search.harts r)
    (never (waits_only.polls_of_complete r) (polls_complete (met lines x) (search.harts r)) (within (met lines x) here).2)
  where
    never : search.polls_of_complete r ≡ false → (b : Bool) → (b ≡ true → search.polls_of_complete r ≡ true) → b ≡ false
    never none false may = refl
    never none true may = (let is = may refl in absurd (cc))

tells_it : (site : Site) (n : ℕ) (x : Reply) → ((m : ℕ) (b : Bool) → x ≡ reply.Posted m b → m ≡ n)
    → Tells n site (answer.Reply x)
tells_it site n (reply.Posted m b) is = is m b refl
tells_it site n _ is = tt

pub unmet_reply : (d : ℕ → Bool) (x : Reply) → ((n : ℕ) (b : Bool) → x ≡ reply.Posted n b → d n ≡ false)
    → Unmet d (answer.Reply x)
unmet_reply d (reply.Posted n b) none = none n b refl
unmet_reply d _ none = tt

-- ---- all ranks

same_maps : {A B : Type 0} (f g : A → B) (xs : List A) → ((i : ℕ) (x : A) → slice_get xs i ≡ Some x → f x ≡ g x)
    → map f xs ≡ map g xs
same_maps f g [] same = refl
same_maps f g (x ∷ xs) same =
    let one = same 0 x refl in
    let rest = same_maps f g xs (λ i y at. same (suc i) y at) in
    (λ k. one k ∷ rest k)

module _ (search : Search) (image : ImageParts) (a : WayState search image) where
  abbrev c : Cluster
  c = a.state.cluster

  abbrev w : WayView
  w = a.now.way

  abbrev lines : List Line
  lines = lines_now w

  pub there_met : (r : ℕ) (x : Rank) → slice_get a.now.ranks r ≡ Some x → slice_get c.ranks r ≡ Some (met lines x)
  there_met r x at = ap (λ xs. slice_get xs r) a.arrived.ranks ∙ mapped (met lines) a.now.ranks r x at

  pub names_below : (r : ℕ) (x : Rank) → slice_get a.now.ranks r ≡ Some x → NamesBelow (length lines) (met lines x)
  names_below r x at =
      below_if_right lines (met lines x)
      (subst (λ ls. NamesRightly ls (met lines x)) a.arrived.hub.lines
      ((a.state.good).names r (met lines x) (there_met r x at)))

  pub number_is : (r : ℕ) (x : Rank) → slice_get a.now.ranks r ≡ Some x → x.site.number ≡ r
  number_is r x at = ap (λ s. s.number) (a.home r (met lines x) (there_met r x at)).site

  -- a rank names only posts that were made
  names_made : (r : ℕ) (x : Rank) → slice_get a.now.ranks r ≡ Some x
      → NamesBefore (next_number w.hub.board) x.requests
  names_made r x at h k is =
      let below = names_below r x at in
      let most = table_before (is_met lines x.site.number) (length lines) (met_made lines x.site.number) x.requests
      (λ names fixes. ap (λ (z : Rank). z.requests) (below names fixes)) h k is in
      let many = many_now w in
      omega (arith, most, many)

  -- and each once, also once it is told of the post that its call made
  pub apart_told : (r : ℕ) (x : Rank) → slice_get a.now.ranks r ≡ Some x → NamesApart x.requests → (hart stamp : ℕ)
      (v : Answer)
      → Tells (next_number w.hub.board) x.site v → NamesApart (told x hart v stamp).requests
  apart_told r x at apart hart stamp v tells =
      apart_more (next_number w.hub.board) x.requests (told x hart v stamp).requests apart (names_made r x at)
      (told_more (next_number w.hub.board) x hart stamp v tells)

  pub tells_next : (r : ℕ) (q : Request) (site : Site) → PostsAs w r q
      → Tells (next_number w.hub.board) site (answer.Reply (reply_on_way w r q))
  tells_next r q site posts = tells_it site (next_number w.hub.board) (reply_on_way w r q) (it posts)
    where
      it : PostsAs w r q → (n : ℕ) (b : Bool) → reply_on_way w r q ≡ reply.Posted n b → n ≡ next_number w.hub.board
      it (nothing same none) n b is = absurd (none n b is)
      it (a_send sync comm dest tag bytes q_is same posted) n b is = posted_number (sym is ∙ posted)
        where
          posted_number : reply.Posted n b ≡ reply.Posted (next_number w.hub.board) (not sync) → n ≡ next_number w.hub.board
          posted_number e = cc
      it (a_receive now comm source tag q_is same number) n b is = number n b is

  -- behind a call of one rank the others are as before
  pub ranks_behind : (r : ℕ) (q : Request) → PostsAs w r q → (z : Rank)
      → map (met (lines_behind w r q)) (slice_set a.now.ranks r z)
      ≡ slice_set c.ranks r (met (lines_behind w r q) z)
  ranks_behind r q posts z =
      map_set (met (lines_behind w r q)) a.now.ranks r z
      ∙ ap (λ xs. slice_set xs r (met (lines_behind w r q) z))
      (same_maps (met (lines_behind w r q)) (met lines) a.now.ranks
      (λ i x at. still_met w r q posts x (names_below i x at))
      ∙ sym a.arrived.ranks)

  -- ---- a call of one rank

  module _ (r : ℕ) (x : Rank) (at : slice_get a.now.ranks r ≡ Some x) where
    -- where nothing was posted
    pub ranks_told : (z : Rank) → map (met lines) (slice_set a.now.ranks r z) ≡ slice_set c.ranks r (met lines z)
    ranks_told z =
        map_set (met lines) a.now.ranks r z
        ∙ ap (λ xs. slice_set xs r (met lines z)) (sym a.arrived.ranks)

    -- told what tells of no post, it is left the same
    pub told_alone : (hart stamp : ℕ) (y : Answer)
        → DoesSame (is_met lines x.site.number) x.memory x.requests (doing x.site (part_of x hart))
        → Unmet (is_met lines x.site.number) y
        → met lines (told x hart y stamp) ≡ told (met lines x) hart y stamp
    told_alone hart stamp y same unmet =
        met_number lines x.site.number (told x hart y stamp) (number_told x hart y stamp)
        ∙ sym (tells_met (is_met lines x.site.number) x hart y stamp same unmet)

    module _ (q : Request) (posts : PostsAs w r q) where
      abbrev more : List Line
      more = lines_behind w r q

      is_still : met_by (is_met more r) x ≡ met lines x
      is_still = sym (met_number more r x (number_is r x at)) ∙ still_met w r q posts x (names_below r x at)

      number_then : (hart stamp : ℕ) (y : Answer)
          → met more (told x hart y stamp) ≡ met_by (is_met more r) (told x hart y stamp)
      number_then hart stamp y =
          met_number more r (told x hart y stamp) (number_told x hart y stamp ∙ number_is r x at)

      same_then : (hart : ℕ)
          → DoesSame (is_met lines x.site.number) x.memory x.requests (doing x.site (part_of x hart))
          → DoesSame (is_met more r) x.memory x.requests (doing x.site (part_of x hart))
      same_then hart same =
          same_again (is_met lines x.site.number) (is_met more r) x.memory x.requests
          (ap (λ (z : Rank). z.requests) is_still) (doing x.site (part_of x hart)) same

      -- told of a post that isn't such a send, it is left the same
      pub told_met : (hart stamp : ℕ) (y : Reply)
          → DoesSame (is_met lines x.site.number) x.memory x.requests (doing x.site (part_of x hart))
          → ((n : ℕ) (b : Bool) → y ≡ reply.Posted n b → is_met more r n ≡ false)
          → met more (told x hart (answer.Reply y) stamp) ≡ told (met lines x) hart (answer.Reply y) stamp
      told_met hart stamp y same unmet =
          number_then hart stamp (answer.Reply y)
          ∙ sym (tells_met (is_met more r) x hart (answer.Reply y) stamp (same_then hart same)
          (unmet_reply (is_met more r) y unmet))
          ∙ ap (λ z. told z hart (answer.Reply y) stamp) is_still

      -- one that makes an SSEND waits for it as before
      pub waits_met : (hart : ℕ) → hart < length x.harts → asked x hart ≡ Ask.Hub q
          → IsSsend (doing x.site (part_of x hart)) → asked (met lines x) hart ≡ Ask.Hub q
          → IsSsend (doing (met lines x).site (part_of (met lines x) hart)) → (n stamp : ℕ)
          → met more (told x hart (answer.Reply (reply.Posted n false)) stamp)
          ≡ told (met lines x) hart (answer.Reply (reply.Posted n false)) stamp
      waits_met hart inside asks ssend asks_met ssend_met n stamp =
          number_then hart stamp (answer.Reply (reply.Posted n false))
          ∙ ap (met_by (is_met more r)) (posted_is x hart q inside asks ssend n stamp)
          ∙ sym (posted_is (met_by (is_met more r) x) hart q inside
          (ap (λ z. asked z hart) is_still ∙ asks_met)
          (subst (λ (z : Rank). IsSsend (doing z.site (part_of z hart))) (sym is_still) ssend_met) n stamp)
          ∙ ap (λ z. told z hart (answer.Reply (reply.Posted n false)) stamp) is_still

      -- and one that leaves a request leaves one that is complete
      pub opens_then : (hart : ℕ) → LeavesRequest (doing x.site (part_of x hart)) → SendsNow (asked x hart)
          → (n stamp : ℕ) → is_met more r n ≡ true
          → met more (told x hart (answer.Reply (reply.Posted n false)) stamp)
          ≡ told (met lines x) hart (answer.Reply (reply.Posted n true)) stamp
      opens_then hart leaves sends n stamp is =
          number_then hart stamp (answer.Reply (reply.Posted n false))
          ∙ sym (opens_met (is_met more r) n is x hart stamp leaves sends)
          ∙ ap (λ z. told z hart (answer.Reply (reply.Posted n true)) stamp) is_still
