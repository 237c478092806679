-- The post that a call makes on the way, and whether it is a synchronous send whose receive was posted before it.
use Rattle.std.proofs.Common.{◌≡◌, ◌∙◌, ℕ, zero, suc, ◌⊎◌, inl, inr, refl, sym, ap, arith, Bool, true, false, List, [], ◌∷◌, ◌++◌, length, Option, Some, None}
use Rattle.std.specs.Prelude.{◌&&◌, ◌||◌, ◌==◌, cond, nat_lt, not}
use Rattle.std.specs.List.{list_all, slice_get}
use Rattle.std.specs.Option.{is_some}
use Rattle.std.proofs.lemmas.Bool.{eq-eqb, lt-ltb}
use Rattle.mp_types.specs.declared.codes.Code.TheVariants as code
use Rattle.mp_types.specs.declared.messages.Envelope.{Envelope}
use Rattle.mp_types.specs.declared.messages.Message.{Message}
use Rattle.mp_types.specs.declared.replies.Reply.{Reply}
use Rattle.mp_types.specs.declared.replies.Reply.TheVariants as reply
use Rattle.mp_types.specs.declared.requests.Request.{Request}
use Rattle.mp_types.specs.declared.requests.Request.TheVariants as request
use Rattle.mp_transfers.specs.declared.sides.Setup.{Setup}
use Rattle.mp_transfers.specs.declared.sides.Side.{Side}
use Rattle.mp_transfers.specs.Inits.{is_receiver, lowest_link, peer_of, same_total, sender_over}
use Rattle.mp_match.specs.declared.posts.Line.{Line}
use Rattle.mp_match.specs.declared.posts.Post.{Post}
use Rattle.mp_match.specs.declared.posts.Post.TheVariants.{Claim, Receive, Send}
use Rattle.mp_match.specs.declared.posts.Selection.{Selection}
use Rattle.mp_match.specs.declared.posts.Sent.{Sent}
use Rattle.mp_match.specs.Board.{Board, claim_of, collect, envelope_at, held_count, is_receive, is_receive_at, is_send_of, is_standard, line_of, partner_of, send_posted as posted_at_once}
use Rattle.mp_match.specs.Order.{SendsAt}
use Rattle.mp_match.specs.Pairs.{add, may_pair, partner_for, partner_of_line}
use Rattle.mp_match.specs.PostPairs.{pairs, posts_of}
use Rattle.mp_match.proofs.Lines.{add_given, add_new, given}
use Rattle.mp_match.proofs.Matched.{line_at}
use Rattle.mp_match.proofs.OrderKept.{chosen, pairs_more, posts_pairs}
use Rattle.mp_match.proofs.Places.{get_within}
use Rattle.mp_probe.specs.Claims.{next_number}
use Rattle.mp_hub.specs.Hub.{HubView, all_collected, all_got, all_outcome, are_distinct, collect_outcome, cut_of, cut_outcome, finished_outcome, got_or, init_first, init_outcome, init_with, is_complete, is_done, is_known, is_ready, may_collect, message_or, seen, selecting, sending, setup_of, side_added, was_received, with_board}
use Rattle.mp_hub.proofs.BoardKept.{all_lines, collect_lines}
use Rattle.mp_way_laws.specs.Way.{WayView, all_arrived, found, lines_of, posted, received, with_hub}
use Rattle.mp_way_laws.specs.Runs.{NamesSource}
use Rattle.mp_way_laws.specs.Answers.{behind, reply_at_once, reply_on_way}
use Rattle.mp_way_laws.proofs.Joined.{posts_length, posts_with}
use Rattle.mp_way_laws.proofs.Parts.{post_at}
use Rattle.cl_way_laws.specs.Met.{is_before, is_met, is_met_line, is_sync_of}

-- ---- calls that make no post

abbrev IsNoPost : Reply → Type 0
IsNoPost x = (n : ℕ) (b : Bool) → x ≡ reply.Posted n b → ⊥

abbrev IsQuiet : HubView → Reply × HubView → Type 0
IsQuiet h o = (o.1.board.lines ≡ h.board.lines) × IsNoPost o.0

no_message : (o : Option Message) → IsNoPost (message_or reply.NotYet o)
no_message None n b e = absurd (cc)
no_message (Some m) n b e = absurd (cc)

no_sight : (o : Option Envelope) → IsNoPost (seen o)
no_sight None n b e = absurd (cc)
no_sight (Some x) n b e = absurd (cc)

no_cut : (o : Option Side) → IsNoPost (cut_of o)
no_cut None n b e = absurd (cc)
no_cut (Some t) n b e = absurd (cc)

refused : (h : HubView) → IsQuiet h (reply.Code code.BadRequest, h)
refused h = (refl, λ n b e. absurd (cc))

collected : (h : HubView) (rank post : ℕ) → IsQuiet h (collect_outcome h rank post)
collected h rank post = go (may_collect h rank post)
  where
    go : (b : Bool) → IsQuiet h (cond b (got_or h reply.NotYet (collect h.board post)) (reply.Code code.BadRequest, h))
    go true = (collect_lines h.board post, no_message (collect h.board post).0)
    go false = refused h

finished : (h : HubView) (rank post : ℕ) → IsQuiet h (finished_outcome h rank post)
finished h rank post = go (is_send_of rank (line_of h.board post)) (is_complete h post)
  where
    go : (b c : Bool) → IsQuiet h (cond b (cond c reply.Done reply.NotYet, h) (reply.Code code.BadRequest, h))
    go true true = (refl, λ n b e. absurd (cc))
    go true false = (refl, λ n b e. absurd (cc))
    go false c = refused h

gathered : (h : HubView) (rank : ℕ) (posts : List ℕ) → IsQuiet h (all_outcome h rank posts)
gathered h rank posts =
    go (are_distinct posts && list_all (λ n. is_known h rank n) posts) (list_all (λ n. is_ready h rank n) posts)
  where
    go : (b c : Bool)
        → IsQuiet h (cond b (cond c (all_collected h (all_got rank h.board posts)) (reply.NotYet, h))
        (reply.Code code.BadRequest, h))
    go true true = (all_lines rank posts h.board, λ n b e. absurd (cc))
    go true false = (refl, λ n b e. absurd (cc))
    go false c = refused h

begun : (h : HubView) (s : Setup) → IsQuiet h (init_outcome h s)
begun h s = go (peer_of h.sides s)
  where
    first : (o : Option ℕ) → IsQuiet h (init_first h s o)
    first None = (refl, λ n b e. absurd (cc))
    first (Some link) = (refl, λ n b e. absurd (cc))

    joins : (peer : Side) (b : Bool) → IsQuiet h (cond b (side_added h s peer.link) (reply.Code code.Shape, h))
    joins peer true = (refl, λ n b e. absurd (cc))
    joins peer false = (refl, λ n b e. absurd (cc))

    go : (o : Option Side) → IsQuiet h (init_with h s o)
    go None = first (lowest_link h.links h.sides s)
    go (Some peer) = joins peer (same_total s peer.setup)

cuts : (h : HubView) (rank link : ℕ) → IsQuiet h (cut_outcome h rank link)
cuts h rank link = go (is_receiver h.links rank link)
  where
    go : (b : Bool) → IsQuiet h (cond b (cut_of (sender_over h.sides link), h) (reply.Code code.BadRequest, h))
    go true = (refl, no_cut (sender_over h.sides link))
    go false = refused h

-- ---- the lines once all has arrived

abbrev pub lines_now : WayView → List Line
lines_now w = (all_arrived w).board.lines

abbrev pub lines_behind : WayView → ℕ → Request → List Line
lines_behind w r q = lines_now (behind w r q)

-- they are those of the posts
by_posts : (ms ns : List Line) → ms ≡ ns → pairs (posts_of ms) ≡ pairs (posts_of ns)
by_posts ms ns same = ap (λ ls. pairs (posts_of ls)) same

one_more : (ms : List Line) (p : Post) (o : Option ℕ) → (new : List Line)
    → posts_of new ≡ posts_of ms ++ p ∷ [] → pairs (posts_of new) ≡ add (pairs (posts_of ms)) p
one_more ms p o new same = ap pairs same ∙ pairs_more (posts_of ms) (p ∷ []) []

pub many_now : (w : WayView) → suc (length (lines_now w)) ≡ next_number w.hub.board
many_now w =
    let ps = posts_of (lines_of w) in
    let same : length (pairs ps) ≡ length (lines_of w) =
    sym (posts_length (pairs ps)) ∙ ap length (posts_pairs ps) ∙ posts_length (lines_of w) in
    omega (arith, same)

-- a call makes no post, and isn't told of one; or it makes a send, or a receive, of which it is told if of any
pub data PostsAs (w : WayView) (r : ℕ) (q : Request) : Type 0 where
  nothing : lines_behind w r q ≡ lines_now w → IsNoPost (reply_on_way w r q) → PostsAs w r q
  a_send : (sync : Bool) (comm dest tag : ℕ) (bytes : List ℕ) → q ≡ request.Send sync comm dest tag bytes
      → lines_behind w r q ≡ add (lines_now w) (Send (sending r sync comm dest tag bytes))
      → reply_on_way w r q ≡ reply.Posted (next_number w.hub.board) (not sync) → PostsAs w r q
  a_receive : (now : Bool) (comm : ℕ) (source tag : Option ℕ) → q ≡ request.Recv now comm source tag
      → lines_behind w r q ≡ add (lines_now w) (Receive (selecting r comm source tag))
      → ((n : ℕ) (b : Bool) → reply_on_way w r q ≡ reply.Posted n b → n ≡ next_number w.hub.board) → PostsAs w r q

quiet : (w : WayView) (r : ℕ) (q : Request) → (behind w r q).hub.board.lines ≡ lines_of w → IsNoPost (reply_on_way w r q)
    → PostsAs w r q
quiet w r q same none = nothing (by_posts (behind w r q).hub.board.lines (lines_of w) same) none

pub posts_as : (w : WayView) (r : ℕ) (q : Request) → NamesSource q → PostsAs w r q
posts_as w r (request.Send sync comm dest tag bytes) named = go (nat_lt (held_count w.hub.board.bodies) 65536) refl
  where
    q : Request
    q = request.Send sync comm dest tag bytes

    s : Sent
    s = sending r sync comm dest tag bytes

    made : Reply × WayView
    made = (
      reply.Posted (next_number w.hub.board) (not sync),
      with_hub w (with_board w.hub (posted w.hub.board (Send s) None (Some bytes))),
    )

    full : Reply × WayView
    full = (reply.Code code.Full, w)

    go : (b : Bool) → nat_lt (held_count w.hub.board.bodies) 65536 ≡ b → PostsAs w r q
    go true e =
        a_send sync comm dest tag bytes refl
        (ap (λ b. lines_now (cond b made full).1) e
        ∙ one_more (lines_of w) (Send s) None (posted w.hub.board (Send s) None (Some bytes)).lines
        (posts_with (lines_of w) (Send s) None))
        (ap (λ b. (cond b made full).0) e)
    go false e =
        nothing (ap (λ b. lines_now (cond b made full).1) e)
        (λ n b is. full_is n b (sym (ap (λ b. (cond b made full).0) e) ∙ is))
      where
        full_is : (n : ℕ) (b : Bool) → reply.Code code.Full ≡ reply.Posted n b → ⊥
        full_is n b e = absurd (cc)
posts_as w r (request.Recv true comm source tag) named =
    a_receive true comm source tag refl
    (by_posts (collect b (next_number w.hub.board)).1.lines b.lines (collect_lines b (next_number w.hub.board))
    ∙ one_more (lines_of w) (Receive a) (found w (Receive a)) b.lines
    (posts_with (lines_of w) (Receive a) (found w (Receive a))))
    (told (collect b (next_number w.hub.board)).0)
  where
    a : Selection
    a = selecting r comm source tag

    b : Board
    b = received w a

    told : (o : Option Message) (n : ℕ) (x : Bool)
        → message_or (reply.Posted (next_number w.hub.board) false) o ≡ reply.Posted n x → n ≡ next_number w.hub.board
    told None n x e = cc
    told (Some m) n x e = absurd (cc)
posts_as w r (request.Recv false comm source tag) named =
    let a = selecting r comm source tag in
    a_receive false comm source tag refl
    (one_more (lines_of w) (Receive a) (found w (Receive a)) (received w a).lines
    (posts_with (lines_of w) (Receive a) (found w (Receive a))))
    (λ n x e. same_number n x e)
  where
    same_number : (n : ℕ) (x : Bool) → reply.Posted (next_number w.hub.board) false ≡ reply.Posted n x
        → n ≡ next_number w.hub.board
    same_number n x e = cc
posts_as w r (request.Collect n) named = (let k = collected w.hub r n in quiet w r (request.Collect n) k.0 k.1)
posts_as w r (request.Finished n) named = (let k = finished w.hub r n in quiet w r (request.Finished n) k.0 k.1)
posts_as w r (request.Probe comm source tag) named =
    quiet w r (request.Probe comm source tag) refl
    (no_sight (envelope_at w.hub.board (found w (Receive (selecting r comm source tag)))))
posts_as w r (request.Claim comm source tag) named = absurd named
posts_as w r (request.Claimed now message) named = absurd named
posts_as w r (request.All ns) named = (let k = gathered w.hub r ns in quiet w r (request.All ns) k.0 k.1)
posts_as w r (request.Init sends comm peer tag parts size) named =
    let k = begun w.hub (setup_of r sends comm peer tag parts size) in
    quiet w r (request.Init sends comm peer tag parts size) k.0 k.1
posts_as w r (request.Cut link) named = (let k = cuts w.hub r link in quiet w r (request.Cut link) k.0 k.1)

-- ---- whether its receive was posted before

-- the partner of a send is a receive
pub receives : (s : Sent) (line : Line) (p : Post) → line.post ≡ p → may_pair (Send s) p ≡ true → (k : ℕ)
    → is_receive (Some (given line k)) ≡ true
receives s line (Receive a) is may k =
    ap (λ x. is_receive (Some (let l : Line = record { post = x; partner = Some k } in l))) is
receives s line (Send t) is may k = absurd (cc)
receives s line (Claim a) is may k = absurd (cc)

module _ (lines : List Line) (rank : ℕ) where
  new_line : (p : Post) (b : Bool)
      → is_met_line (add lines p) rank (length lines) (Some (record { post = p; partner = partner_for lines p })) ≡ b
      → is_met (add lines p) rank (suc (length lines)) ≡ b
  new_line p b is = ap (is_met_line (add lines p) rank (length lines)) (add_new lines p) ∙ is

  no_receive : (a : Selection) → is_met (add lines (Receive a)) rank (suc (length lines)) ≡ false
  no_receive a = new_line (Receive a) false refl

  no_standard : (comm dest tag : ℕ) (bytes : List ℕ)
      → is_met (add lines (Send (sending rank false comm dest tag bytes))) rank (suc (length lines)) ≡ false
  no_standard comm dest tag bytes = new_line (Send (sending rank false comm dest tag bytes)) false refl

  and_false : (b : Bool) → (b && false) ≡ false
  and_false true = refl
  and_false false = refl

  module _ (comm dest tag : ℕ) (bytes : List ℕ) where
    abbrev s : Sent
    s = sending rank true comm dest tag bytes

    not_yet : is_some (partner_for lines (Send s)) ≡ false → is_met (add lines (Send s)) rank (suc (length lines)) ≡ false
    not_yet none =
        new_line (Send s) false
        (go (partner_for lines (Send s)) none)
      where
        go : (o : Option ℕ) → is_some o ≡ false
            → is_met_line (add lines (Send s)) rank (length lines) (Some (record { post = Send s; partner = o })) ≡ false
        go None e = and_false (is_sync_of rank (Send s))
        go (Some k) e = absurd (cc)

    before : is_some (partner_for lines (Send s)) ≡ true → is_met (add lines (Send s)) rank (suc (length lines)) ≡ true
    before some = new_line (Send s) true (go (partner_for lines (Send s)) refl some)
      where
        inside : (place : ℕ) → partner_for lines (Send s) ≡ Some place → nat_lt place (length lines) ≡ true
        inside place e =
            let c = chosen lines (Send s) place e in
            lt-ltb place (length lines) (get_within lines place c.line c.here)

        receive_is : (place : ℕ) → partner_for lines (Send s) ≡ Some place
            → is_receive (slice_get (add lines (Send s)) place) ≡ true
        receive_is place e =
            let c = chosen lines (Send s) place e in
            ap is_receive (add_given lines (Send s) place c.line c.here e)
            ∙ receives s c.line c.line.post refl c.pair (length lines)

        go : (o : Option ℕ) → partner_for lines (Send s) ≡ o → is_some o ≡ true
            → is_met_line (add lines (Send s)) rank (length lines) (Some (record { post = Send s; partner = o })) ≡ true
        go None e some = absurd (cc)
        go (Some place) e some =
            ap (λ b. b && (nat_lt place (length lines) && is_receive (slice_get (add lines (Send s)) place)))
            (eq-eqb rank rank refl)
            ∙ ap (λ b. b && is_receive (slice_get (add lines (Send s)) place)) (inside place e)
            ∙ receive_is place e

-- ---- a call that is told the same once all has arrived tells of no such send

module _ (w : WayView) (r : ℕ) (q : Request) where
  -- a call whose send is complete once all has arrived
  done_there : (comm dest tag : ℕ) (bytes : List ℕ) (n : ℕ) (b : Bool)
      → reply_at_once w r (request.Send true comm dest tag bytes) ≡ reply.Posted n b
      → is_some (partner_for (lines_now w) (Send (sending r true comm dest tag bytes))) ≡ b
  done_there comm dest tag bytes n b told = go (nat_lt (held_count (all_arrived w).board.bodies) 65536) told
    where
      s : Sent
      s = sending r true comm dest tag bytes

      h : HubView
      h = all_arrived w

      go : (room : Bool)
          → (let x : Reply × HubView = cond room (
            reply.Posted (next_number h.board) (is_done h.board s),
            with_board h (posted_at_once h.board s bytes),
          ) (reply.Code code.Full, h) in x.0) ≡ reply.Posted n b
          → is_some (partner_for (lines_now w) (Send s)) ≡ b
      go true told = cc
      go false told = absurd (cc)

  pub unmet : PostsAs w r q → reply_on_way w r q ≡ reply_at_once w r q → (n : ℕ) (b : Bool)
      → reply_on_way w r q ≡ reply.Posted n b → is_met (lines_behind w r q) r n ≡ false
  unmet (nothing same none) told n b is = absurd (none n b is)
  unmet (a_receive now comm source tag q_is same number) told n b is =
      ap (λ k. is_met (lines_behind w r q) r k) (number n b is ∙ sym (many_now w))
      ∙ ap (λ ls. is_met ls r (suc (length (lines_now w)))) same
      ∙ no_receive (lines_now w) r (selecting r comm source tag)
  unmet (a_send sync comm dest tag bytes q_is same posted) told n b is =
      ap (λ k. is_met (lines_behind w r q) r k) (same_number n b (sym posted ∙ is) ∙ sym (many_now w))
      ∙ ap (λ ls. is_met ls r (suc (length (lines_now w)))) same
      ∙ go sync q_is posted
    where
      same_number : (n : ℕ) (b : Bool) → reply.Posted (next_number w.hub.board) (not sync) ≡ reply.Posted n b
          → n ≡ next_number w.hub.board
      same_number n b e = cc

      go : (sync : Bool) → q ≡ request.Send sync comm dest tag bytes
          → reply_on_way w r q ≡ reply.Posted (next_number w.hub.board) (not sync)
          → is_met (add (lines_now w) (Send (sending r sync comm dest tag bytes))) r (suc (length (lines_now w))) ≡ false
      go false q_is posted = no_standard (lines_now w) r comm dest tag bytes
      go true q_is posted =
          not_yet (lines_now w) r comm dest tag bytes
          (done_there comm dest tag bytes (next_number w.hub.board) false
          (ap (reply_at_once w r) (sym q_is) ∙ sym told ∙ posted))

  -- and one whose synchronous send is complete then tells of one
  pub met_then : PostsAs w r q → (comm dest tag : ℕ) (bytes : List ℕ) → q ≡ request.Send true comm dest tag bytes
      → (n : ℕ) → reply_on_way w r q ≡ reply.Posted (next_number w.hub.board) false
      → reply_at_once w r q ≡ reply.Posted n true
      → is_met (lines_behind w r q) r (next_number w.hub.board) ≡ true
  met_then posts comm dest tag bytes q_is n posted done =
      ap (λ k. is_met (lines_behind w r q) r k) (sym (many_now w))
      ∙ ap (λ ls. is_met ls r (suc (length (lines_now w)))) (made posts)
      ∙ before (lines_now w) r comm dest tag bytes
      (done_there comm dest tag bytes n true (ap (reply_at_once w r) (sym q_is) ∙ done))
    where
      same_send : (sync : Bool) (c d t : ℕ) (bs : List ℕ)
          → request.Send sync c d t bs ≡ request.Send true comm dest tag bytes
          → sending r sync c d t bs ≡ sending r true comm dest tag bytes
      same_send sync c d t bs e =
          ap (λ q. elim q [
            | request.Send s c d t bs ↦ sending r s c d t bs
            | _ ↦ sending r true comm dest tag bytes
          ]) e

      made : PostsAs w r q
          → lines_behind w r q ≡ add (lines_now w) (Send (sending r true comm dest tag bytes))
      made (nothing same none) = absurd (none (next_number w.hub.board) false posted)
      made (a_receive now c source t other same number) = absurd (cc)
      made (a_send sync c d t bs other same told) =
          same ∙ ap (λ s. add (lines_now w) (Send s)) (same_send sync c d t bs (sym other ∙ q_is))

  -- a receive is none
  pub unmet_receive : PostsAs w r q → (now : Bool) (comm : ℕ) (source tag : Option ℕ) → q ≡ request.Recv now comm source tag
      → (n : ℕ) (b : Bool) → reply_on_way w r q ≡ reply.Posted n b → is_met (lines_behind w r q) r n ≡ false
  unmet_receive (nothing same none) now comm source tag q_is n b is = absurd (none n b is)
  unmet_receive (a_send sync c d t bs other same posted) now comm source tag q_is n b is = absurd (cc)
  unmet_receive (a_receive early c s t other same number) now comm source tag q_is n b is =
      ap (λ k. is_met (lines_behind w r q) r k) (number n b is ∙ sym (many_now w))
      ∙ ap (λ ls. is_met ls r (suc (length (lines_now w)))) same
      ∙ no_receive (lines_now w) r (selecting r c s t)

-- ---- the answer to a question for such a send

module _ (lines : List Line) (rank place : ℕ) (is : is_met lines rank (suc place) ≡ true) where
  -- what stands there
  pub record IsMetThere : Type 0 where
    pub line : Line
    pub here : slice_get lines place ≡ Some line
    pub sent : Sent
    pub sends : line.post ≡ Send sent
    pub own : (sent.envelope.source == rank) ≡ true
    pub other : ℕ
    pub partner : line.partner ≡ Some other
    pub receive : is_receive (slice_get lines other) ≡ true

  both : (a b : Bool) → (a && b) ≡ true → (a ≡ true) × (b ≡ true)
  both true b e = (refl, e)
  both false b e = absurd (cc)

  pub met_there : IsMetThere
  met_there = go (slice_get lines place) refl is
    where
      with_post : (line : Line) → slice_get lines place ≡ Some line → (p : Post) → line.post ≡ p → (o : Option ℕ)
          → line.partner ≡ o → (is_sync_of rank p && is_before lines place o) ≡ true → IsMetThere
      with_post line here (Send s) post (Some other) partner e =
          let k = both (is_sync_of rank (Send s)) (is_before lines place (Some other)) e in
          record {
            line = line;
            here = here;
            sent = s;
            sends = post;
            own = (both s.sync (s.envelope.source == rank) k.0).1;
            other = other;
            partner = partner;
            receive = (both (nat_lt other place) (is_receive (slice_get lines other)) k.1).1;
          }
      with_post line here (Send s) post None partner e =
          (let k = both (is_sync_of rank (Send s)) false e in let no = k.1 in absurd (cc))
      with_post line here (Receive a) post o partner e = absurd (cc)
      with_post line here (Claim a) post o partner e = absurd (cc)

      go : (o : Option Line) → slice_get lines place ≡ o → is_met_line lines rank place o ≡ true → IsMetThere
      go None here e = absurd (cc)
      go (Some line) here e = with_post line here line.post refl line.partner refl e

own_send : (lines : List Line) (rank place : ℕ) (line : Line) (s : Sent) → slice_get lines place ≡ Some line
    → line.post ≡ Send s → (s.envelope.source == rank) ≡ true → is_send_of rank (slice_get lines place) ≡ true
own_send lines rank place line s here post own = ap (is_send_of rank) here ∙ go line.post post
  where
    go : (p : Post) → p ≡ Send s → is_send_of rank (Some (record { post = p; partner = line.partner })) ≡ true
    go p e =
        ap (λ p. is_send_of rank (Some (let l : Line = record { post = p; partner = line.partner } in l))) e ∙ own

finished_is : (h : HubView) (rank n : ℕ) (b c : Bool) → is_send_of rank (line_of h.board n) ≡ b → is_complete h n ≡ c
    → finished_outcome h rank n ≡ cond b (cond c reply.Done reply.NotYet, h) (reply.Code code.BadRequest, h)
finished_is h rank n b c one two =
    ap (λ b. (let x : Reply × HubView =
    cond b (cond (is_complete h n) reply.Done reply.NotYet, h) (reply.Code code.BadRequest, h) in x)) one
    ∙ ap (λ c. (let x : Reply × HubView =
    cond b (cond c reply.Done reply.NotYet, h) (reply.Code code.BadRequest, h) in x)) two

pub met_sends : (b : Board) (rank n : ℕ) → is_met b.lines rank n ≡ true → is_send_of rank (line_of b n) ≡ true
met_sends b rank zero is = absurd (cc)
met_sends b rank (suc place) is =
    let k = met_there b.lines rank place is in own_send b.lines rank place k.line k.sent k.here k.sends k.own

pub met_complete : (h : HubView) (rank n : ℕ) → is_met h.board.lines rank n ≡ true → is_complete h n ≡ true
met_complete h rank zero is = absurd (cc)
met_complete h rank (suc place) is =
    let k = met_there h.board.lines rank place is in
    or_true (is_standard (slice_get h.board.lines place))
    (is_receive_at h.board (partner_of h.board (suc place)))
    (was_received h (claim_of h.board (suc place)))
    (ap (is_receive_at h.board) (ap partner_of_line k.here ∙ k.partner) ∙ k.receive)
  where
    or_true : (a b c : Bool) → b ≡ true → ((a || b) || c) ≡ true
    or_true true b c e = refl
    or_true false b c e = ap (λ x. x || c) e

-- once all has arrived it is complete
pub met_is_done : (h : HubView) (rank n : ℕ) → is_met h.board.lines rank n ≡ true
    → (finished_outcome h rank n).0 ≡ reply.Done
met_is_done h rank n is =
    ap (λ (x : Reply × HubView). x.0)
    (finished_is h rank n true true (met_sends h.board rank n is) (met_complete h rank n is))

-- and until then it is or it isn't, and nothing changes
pub met_asked : (w : WayView) (rank n : ℕ) → is_met (lines_now w) rank n ≡ true
    → ((reply_on_way w rank (request.Finished n) ≡ reply.Done) ⊎ (reply_on_way w rank (request.Finished n) ≡ reply.NotYet))
    × (behind w rank (request.Finished n) ≡ w)
met_asked w rank zero is = absurd (cc)
met_asked w rank (suc place) is = go (is_complete w.hub (suc place)) refl
  where
    k : IsMetThere (lines_now w) rank place is
    k = met_there (lines_now w) rank place is

    at : SendsAt (posts_of (lines_of w)) place k.sent
    at =
        ap (λ ps. slice_get ps place) (sym (posts_pairs (posts_of (lines_of w))))
        ∙ post_at (lines_now w) place k.line k.here ∙ ap (λ p. Some p) k.sends

    own : is_send_of rank (line_of w.hub.board (suc place)) ≡ true
    own =
        let l = line_at (lines_of w) place (Send k.sent) at in
        own_send (lines_of w) rank place l.0 k.sent l.1 l.2 k.own

    go : (c : Bool) → is_complete w.hub (suc place) ≡ c
        → ((reply_on_way w rank (request.Finished (suc place)) ≡ reply.Done)
        ⊎ (reply_on_way w rank (request.Finished (suc place)) ≡ reply.NotYet))
        × (behind w rank (request.Finished (suc place)) ≡ w)
    go true e =
        let f = finished_is w.hub rank (suc place) true true own e in
        (inl (ap (λ (x : Reply × HubView). x.0) f), ap (λ (x : Reply × HubView). with_hub w x.1) f)
    go false e =
        let f = finished_is w.hub rank (suc place) true false own e in
        (inr (ap (λ (x : Reply × HubView). x.0) f), ap (λ (x : Reply × HubView). with_hub w x.1) f)
