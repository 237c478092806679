-- What holds of the loaded cluster lasts.
use Rattle.std.proofs.Common.{◌≡◌, ◌∙◌, ℕ, suc, ◌+◌, ◌≤◌, refl, sym, ap, subst, arith, inl, inr, Bool, true, false, List, length, Option, Some, None}
use Rattle.std.specs.Prelude.{cond, nat_lt, not, ◌&&◌}
use Rattle.std.specs.List.{list_all, slice_get, slice_set}
use Rattle.std.specs.Option.{is_some}
use Rattle.std.proofs.lemmas.Bool.{cases_eq}
use Rattle.mp_types.specs.declared.codes.Code.TheVariants as code
use Rattle.mp_types.specs.declared.messages.Envelope.{Envelope}
use Rattle.mp_types.specs.declared.messages.Message.{Message}
use Rattle.mp_types.specs.declared.replies.Reply.{Reply}
use Rattle.mp_types.specs.declared.replies.Reply.TheVariants as reply
use Rattle.mp_types.specs.declared.requests.Request.{Request}
use Rattle.mp_types.specs.declared.requests.Request.TheVariants as request
use Rattle.mp_match.specs.declared.posts.Line.{Line}
use Rattle.mp_match.specs.declared.posts.Post.{Post}
use Rattle.mp_match.specs.declared.posts.Post.TheVariants as post
use Rattle.mp_match.specs.declared.posts.Selection.{Selection}
use Rattle.mp_match.specs.declared.posts.Sent.{Sent}
use Rattle.mp_match.specs.Board.{Board, collect, held_count, is_standard, is_send_of, line_of, probed, receive_posted, send_posted}
use Rattle.mp_match.specs.Pairs.{add}
use Rattle.mp_match.proofs.Lines.{Look, is_given, is_new, is_old, look}
use Rattle.mp_transfers.specs.declared.sides.Setup.{Setup}
use Rattle.mp_transfers.specs.declared.sides.Side.{Side}
use Rattle.mp_transfers.specs.Inits.{is_receiver, lowest_link, peer_of, same_total, sender_over}
use Rattle.mp_hub.specs.Hub.{HubView, all_collected, all_got, are_distinct, claim_found, claimed_now, cut_of, got_or, held, init_first, init_with, is_complete, is_done, is_known, is_ready, may_collect, outcome, seen, selecting, sending, setup_of, side_added, with_board, with_claims}
use Rattle.mp_probe.specs.Claims.{handle_if, may_receive, next_number, without_claim}
use Rattle.mp_hub.proofs.BoardKept.{all_lines, collect_lines}
use Rattle.mp_wait_laws.proofs.Fresh.{Laid}
use Rattle.mp_wait_laws.proofs.Moves.{got_hub}
use Rattle.mp_wait_laws.proofs.Sets.{get-set_other}
use Rattle.mp_wait_laws.proofs.Waits.{laid_after}
use Rattle.mp_source_laws.specs.Alike.{Wild}
use Rattle.mp_source_laws.specs.Laws.{AsksFrom, AsksWithin}
use Rattle.mp_clash_laws.specs.Exchanges.{WaitsWithin}
use Rattle.cl_journal.specs.Journal.{calls_of}
use Rattle.cl_state.specs.declared.asking.Answer.{Answer}
use Rattle.cl_state.specs.declared.asking.Answer.TheVariants as answer
use Rattle.cl_state.specs.declared.asking.Ask.{Ask}
use Rattle.cl_state.specs.Asked.{asked, doing, part_of}
use Rattle.cl_state.specs.Rank.{Rank}
use Rattle.cl_state.specs.Told.{told}
use Rattle.cl_state_laws.specs.Awake.{HasNoBytes, StandsAtCall}
use Rattle.cl_state_laws.specs.Vain.{waits_on}
use Rattle.cl_state_laws.proofs.Wakes.{wake_law}
use Rattle.cl_first_laws.specs.Below.{IsNamed, TellsOnly}
use Rattle.cl_trace.specs.declared.events.Kind.{Kind}
use Rattle.cl_machine.specs.Boxes.{Box, box_number, with_made, with_taken}
use Rattle.cl_machine.specs.Cluster.{Cluster}
use Rattle.cl_order_laws.specs.Alike.{AlikeBoxes, hub_of}
use Rattle.cl_order_laws.specs.Closed.{Node, Plans, Turns, none_had, one_more}
use Rattle.cl_order_laws.specs.Sure.{Goes}
use Rattle.cl_order_laws.specs.Turns.{IsOnly as IsAlone, IsTurn}
use Rattle.cl_order_laws.proofs.Boxes.{holds_too, made_alike, taken_alike}
use Rattle.cl_order_laws.proofs.Each.{was_there}
use Rattle.cl_order_laws.proofs.Likeness.{AreSound}
use Rattle.cl_order_laws.proofs.Turns.{turns_law}
use Rattle.cl_order_laws.proofs.Walks.{turn_posts, turn_posts_most}
use Rattle.cl_first_laws.specs.Below.{AskWithin}
use Rattle.cl_first_laws.specs.Laws.{Turn}
use Rattle.cl_first_laws.proofs.Exchanges.{Called, call_of}
use Rattle.cl_reduction_laws.specs.Clusters.{IsAtBox, IsGood, IsWithin, NamesRightly, Search, may_be_awaited, posts_of, was_made}
use Rattle.cl_reduction_laws.proofs.AtBoxes.{AtBox, Leaves, at_box, freed, misses, readied, stands_taken, took}
use Rattle.cl_reduction_laws.proofs.Naming.{Grows, awaited_new, grows_added, grows_same, made_new, rightly_more, rightly_sent, rightly_told}
use Rattle.cl_reduction_laws.specs.Patterns.{IsAllowed, Patterns, pattern_of, pattern_of_ask, pattern_of_request}

-- ---- the posts of a call

-- a call of these patterns makes no post, or a send, or the receive that it asks for, or a claim
pub data Makes (h : HubView) (r : ℕ) (q : Request) (new : HubView) : Type 0 where
  nothing : new.board.lines ≡ h.board.lines → Makes h r q new
  a_send : (s : Sent) → new.board.lines ≡ add h.board.lines (post.Send s) → Makes h r q new
  a_receive : (now : Bool) (comm : ℕ) (source tag : Option ℕ) → q ≡ request.Recv now comm source tag
      → new.board.lines ≡ add h.board.lines (post.Receive (selecting r comm source tag)) → Makes h r q new
  a_claim : (what : Selection) → new.board.lines ≡ add h.board.lines (post.Claim what) → Makes h r q new

-- the call has a pattern
abbrev pub IsListed : Request → Type 0
IsListed (request.Send sync comm dest tag bytes) = Unit {0}
IsListed (request.Recv now comm source tag) = Unit {0}
IsListed (request.Collect n) = Unit {0}
IsListed (request.Finished n) = Unit {0}
IsListed (request.All ns) = Unit {0}
IsListed (request.Probe comm source tag) = Unit {0}
IsListed (request.Claim comm source tag) = Unit {0}
IsListed (request.Claimed now n) = Unit {0}
IsListed (request.Init sends comm peer tag parts size) = Unit {0}
IsListed (request.Cut link) = Unit {0}

module _ (h : HubView) (r : ℕ) (q : Request) where
  either : (b : Bool) (x y : Reply × HubView) → Makes h r q x.1 → Makes h r q y.1 → Makes h r q (cond b x y).1
  either true x y p s = p
  either false x y p s = s

pub makes : (h : HubView) (r : ℕ) (q : Request) → IsListed q → Makes h r q (outcome h r q).1
makes h r (request.Send sync comm dest tag bytes) is =
    let s = sending r sync comm dest tag bytes in
    either h r _ (nat_lt (held_count h.board.bodies) 65536)
    (reply.Posted (next_number h.board) (is_done h.board s), with_board h (send_posted h.board s bytes))
    (reply.Code code.Full, h) (a_send s refl) (nothing refl)
makes h r (request.Recv true comm source tag) is =
    let b = receive_posted h.board (selecting r comm source tag) in
    a_receive true comm source tag refl
    (ap (λ (k : HubView). k.board.lines) (got_hub h (reply.Posted (next_number h.board) false) (collect b (next_number h.board)))
    ∙ collect_lines b (next_number h.board))
makes h r (request.Recv false comm source tag) is = a_receive false comm source tag refl refl
makes h r (request.Collect n) is =
    either h r _ (may_collect h r n) (got_or h reply.NotYet (collect h.board n)) (reply.Code code.BadRequest, h)
    (nothing (ap (λ (k : HubView). k.board.lines) (got_hub h reply.NotYet (collect h.board n)) ∙ collect_lines h.board n))
    (nothing refl)
makes h r (request.Finished n) is =
    either h r _ (is_send_of r (line_of h.board n)) (cond (is_complete h n) reply.Done reply.NotYet, h)
    (reply.Code code.BadRequest, h) (nothing refl) (nothing refl)
makes h r (request.Probe comm source tag) is = nothing refl
makes h r (request.All ns) is =
    either h r _ (are_distinct ns && list_all (λ n. is_known h r n) ns)
    (cond (list_all (λ n. is_ready h r n) ns) (all_collected h (all_got r h.board ns)) (reply.NotYet, h))
    (reply.Code code.BadRequest, h)
    (either h r _ (list_all (λ n. is_ready h r n) ns) (all_collected h (all_got r h.board ns)) (reply.NotYet, h)
    (nothing (all_lines r ns h.board)) (nothing refl))
    (nothing refl)
makes h r (request.Claim comm source tag) is = go (probed h.board (post.Claim (selecting r comm source tag)))
  where
    go : (o : Option Envelope) → Makes h r (request.Claim comm source tag) (claim_found h (selecting r comm source tag) o).1
    go None = nothing refl
    go (Some e) = a_claim (selecting r comm source tag) refl
makes h r (request.Claimed now n) is =
    either h r (request.Claimed now n) (may_receive h.claims r n) (claimed_now k now n) (reply.Code code.BadMessage, h) (go now)
    (nothing refl)
  where
    k : HubView
    k = with_claims h (without_claim h.claims r n)

    go : (now : Bool) → Makes h r (request.Claimed now n) (claimed_now k now n).1
    go true =
        nothing (ap (λ (x : HubView). x.board.lines) (got_hub k reply.NotYet (collect h.board n)) ∙ collect_lines h.board n)
    go false = nothing refl
makes h r (request.Init sends comm peer tag parts size) is =
    go (setup_of r sends comm peer tag parts size) (peer_of h.sides (setup_of r sends comm peer tag parts size))
  where
    q : Request
    q = request.Init sends comm peer tag parts size

    free : (s : Setup) (o : Option ℕ) → Makes h r q (init_first h s o).1
    free s None = nothing refl
    free s (Some link) = nothing refl

    go : (s : Setup) (o : Option Side) → Makes h r q (init_with h s o).1
    go s None = free s (lowest_link h.links h.sides s)
    go s (Some t) =
        either h r q (same_total s t.setup) (side_added h s t.link) (reply.Code code.Shape, h) (nothing refl) (nothing refl)
makes h r (request.Cut link) is =
    either h r (request.Cut link) (is_receiver h.links r link) (cut_of (sender_over h.sides link), h) (reply.Code code.BadRequest, h)
    (nothing refl) (nothing refl)

-- ---- receives of any source

same_receive : (x y : Selection) → post.Receive x ≡ post.Receive y → x ≡ y
same_receive x y e = cc

same_post : (a b : ℕ) (x y : Bool) → reply.Posted a x ≡ reply.Posted b y → a ≡ b
same_post a b x y e = cc

module _ (wild : Wild) (h : HubView) (within : WaitsWithin wild h) where
  -- what waits in a list with one post more waited before, or is that post
  waits_in : (p : Post) → ((a : Selection) → p ≡ post.Receive a → AsksFrom wild a.rank a.comm a.source) → (place : ℕ) (a : Selection)
      → slice_get (add h.board.lines p) place ≡ Some (record { post = post.Receive a; partner = None })
      → AsksFrom wild a.rank a.comm a.source
  waits_in p fits place a here = go (look h.board.lines p place _ here)
    where
      go : Look h.board.lines p place (record { post = post.Receive a; partner = None }) → AsksFrom wild a.rank a.comm a.source
      go (is_new at is) = fits a (sym (ap (λ (m : Line). m.post) is))
      go (is_old there) = within place a there
      go (is_given x there gives is) = (let none = ap (λ (m : Line). m.partner) is in absurd (cc))

  pub waits_after : (r : ℕ) (q : Request) → IsListed q → AsksWithin wild r q → WaitsWithin wild (outcome h r q).1
  waits_after r q listed asks place a here = go (makes h r q listed)
    where
      go : Makes h r q (outcome h r q).1 → AsksFrom wild a.rank a.comm a.source
      go (nothing same) = within place a (ap (λ ms. slice_get ms place) (sym same) ∙ here)
      go (a_send s same) =
          waits_in (post.Send s) (λ b e. absurd (cc)) place a (ap (λ ms. slice_get ms place) (sym same) ∙ here)
      go (a_receive now comm source tag is same) =
          waits_in (post.Receive (selecting r comm source tag))
          (λ b e. subst (λ (s : Selection). AsksFrom wild s.rank s.comm s.source) (same_receive (selecting r comm source tag) b e)
          (subst (AsksWithin wild r) is asks))
          place a (ap (λ ms. slice_get ms place) (sym same) ∙ here)
      go (a_claim what same) =
          waits_in (post.Claim what) (λ b e. absurd (cc)) place a (ap (λ ms. slice_get ms place) (sym same) ∙ here)

-- ---- posts that a reply tells of

-- a call that isn't a standard send
abbrev pub IsTold : Request → Type 0
IsTold (request.Send false comm dest tag bytes) = ⊥
IsTold q = IsListed q

-- what was posted last may be named, if it is no standard send
new_named : (h : HubView) (p : Post) (n : ℕ) (lines : List Line) → is_standard (Some (record { post = p; partner = None })) ≡ false
    → lines ≡ add h.board.lines p → next_number h.board ≡ n → IsNamed (may_be_awaited lines) n
new_named h p n lines sync is at =
    let e : suc (length h.board.lines) ≡ n = (omega (arith, at)) in
    subst (IsNamed (may_be_awaited lines)) e
    (subst (λ ms. may_be_awaited ms (length h.board.lines) ≡ true) (sym is) (awaited_new h.board.lines p sync))

-- a claim that may be received may be named
claim_named : (ms : List Line) (place : ℕ) (line : Line) (what : Selection) → slice_get ms place ≡ Some line
    → line.post ≡ post.Claim what → may_be_awaited ms place ≡ true
claim_named ms place line what here claims =
    ap (λ o. is_some o && not (is_standard o)) here
    ∙ ap (λ p. not (is_standard (Some (record { post = p; partner = line.partner })))) claims

-- a reply to such a call tells of a post that may be named
pub told_named : (h : HubView) → Laid h → (r : ℕ) (q : Request) → IsTold q → (n : ℕ) (done : Bool)
    → (outcome h r q).0 ≡ reply.Posted n done → IsNamed (may_be_awaited (outcome h r q).1.board.lines) n
told_named h laid r (request.Send false comm dest tag bytes) is n done e = absurd is
told_named h laid r (request.Send true comm dest tag bytes) is n done e =
    go (nat_lt (held_count h.board.bodies) 65536) e
  where
    s : Sent
    s = sending r true comm dest tag bytes

    full : Reply × HubView
    full = (reply.Code code.Full, h)

    made : Reply × HubView
    made = (reply.Posted (next_number h.board) (is_done h.board s), with_board h (send_posted h.board s bytes))

    go : (b : Bool) → (cond b made full).0 ≡ reply.Posted n done
        → IsNamed (may_be_awaited (cond b made full).1.board.lines) n
    go true e = new_named h (post.Send s) n _ refl refl (same_post _ _ _ _ e)
    go false e = absurd (cc)
told_named h laid r (request.Recv false comm source tag) is n done e =
    new_named h (post.Receive (selecting r comm source tag)) n _ refl refl (same_post _ _ _ _ e)
told_named h laid r (request.Recv true comm source tag) is n done e =
    go (collect b (next_number h.board)).0 (collect b (next_number h.board)).1 (collect_lines b (next_number h.board)) e
  where
    b : Board
    b = receive_posted h.board (selecting r comm source tag)

    go : (o : Option Message) (c : Board) → c.lines ≡ b.lines
        → (got_or h (reply.Posted (next_number h.board) false) (o, c)).0 ≡ reply.Posted n done
        → IsNamed (may_be_awaited (got_or h (reply.Posted (next_number h.board) false) (o, c)).1.board.lines) n
    go None c same e = new_named h (post.Receive (selecting r comm source tag)) n c.lines refl same (same_post _ _ _ _ e)
    go (Some m) c same e = absurd (cc)
told_named h laid r (request.Collect k) is n done e = absurd (go (may_collect h r k) (collect h.board k).0 (collect h.board k).1 e)
  where
    go : (b : Bool) (o : Option Message) (c : Board)
        → (cond b (got_or h reply.NotYet (o, c)) (reply.Code code.BadRequest, h)).0 ≡ reply.Posted n done → ⊥
    go true None c e = absurd (cc)
    go true (Some m) c e = absurd (cc)
    go false o c e = absurd (cc)
told_named h laid r (request.Finished k) is n done e = absurd (go (is_send_of r (line_of h.board k)) (is_complete h k) e)
  where
    go : (b c : Bool) → (let o : Reply × HubView = cond b (cond c reply.Done reply.NotYet, h) (reply.Code code.BadRequest, h) in o).0 ≡ reply.Posted n done → ⊥
    go true true e = absurd (cc)
    go true false e = absurd (cc)
    go false c e = absurd (cc)
told_named h laid r (request.All ns) is n done e =
    absurd (go (are_distinct ns && list_all (λ k. is_known h r k) ns) (list_all (λ k. is_ready h r k) ns) e)
  where
    go : (b c : Bool)
        → (let o : Reply × HubView = cond b (cond c (all_collected h (all_got r h.board ns)) (reply.NotYet, h)) (reply.Code code.BadRequest, h) in o).0
        ≡ reply.Posted n done → ⊥
    go true true e = absurd (cc)
    go true false e = absurd (cc)
    go false c e = absurd (cc)
told_named h laid r (request.Probe comm source tag) is n done e = absurd (go _ e)
  where
    go : (o : Option Envelope) → seen o ≡ reply.Posted n done → ⊥
    go None e = absurd (cc)
    go (Some x) e = absurd (cc)
told_named h laid r (request.Claim comm source tag) is n done e =
    absurd (go (probed h.board (post.Claim (selecting r comm source tag))) e)
  where
    go : (o : Option Envelope) → held (handle_if (next_number h.board) o) ≡ reply.Posted n done → ⊥
    go None e = absurd (cc)
    go (Some x) e = absurd (cc)
told_named h laid r (request.Claimed now k) is n done e = go (may_receive h.claims r k) refl now e
  where
    fewer : HubView
    fewer = with_claims h (without_claim h.claims r k)

    bad : Reply × HubView
    bad = (reply.Code code.BadMessage, h)

    got : (o : Option Message) (c : Board) → (got_or fewer reply.NotYet (o, c)).0 ≡ reply.Posted n done → ⊥
    got None c e = absurd (cc)
    got (Some m) c e = absurd (cc)

    go : (b : Bool) → may_receive h.claims r k ≡ b → (now : Bool) → (cond b (claimed_now fewer now k) bad).0 ≡ reply.Posted n done
        → IsNamed (may_be_awaited (cond b (claimed_now fewer now k) bad).1.board.lines) n
    go true may true e = absurd (got (collect h.board k).0 (collect h.board k).1 e)
    go true may false e =
        let c = laid.owned r k may in
        let at : suc c.place ≡ n = (let same = same_post k n _ _ e in let its = c.numbered in omega (arith, same, its)) in
        subst (IsNamed (may_be_awaited h.board.lines)) at (claim_named h.board.lines c.place c.line c.what c.here c.claims)
    go false may now e = absurd (cc)
told_named h laid r (request.Init sends comm peer tag parts size) is n done e =
    absurd (go (setup_of r sends comm peer tag parts size) (peer_of h.sides (setup_of r sends comm peer tag parts size)) e)
  where
    free : (s : Setup) (o : Option ℕ) → (init_first h s o).0 ≡ reply.Posted n done → ⊥
    free s None e = absurd (cc)
    free s (Some link) e = absurd (cc)

    joined : (s : Setup) (t : Side) (b : Bool)
        → (let o : Reply × HubView = cond b (side_added h s t.link) (reply.Code code.Shape, h) in o.0 ≡ reply.Posted n done) → ⊥
    joined s t true e = absurd (cc)
    joined s t false e = absurd (cc)

    go : (s : Setup) (o : Option Side) → (init_with h s o).0 ≡ reply.Posted n done → ⊥
    go s None e = free s (lowest_link h.links h.sides s) e
    go s (Some t) e = joined s t (same_total s t.setup) e
told_named h laid r (request.Cut link) is n done e =
    absurd (go (is_receiver h.links r link) (sender_over h.sides link) e)
  where
    go : (b : Bool) (o : Option Side)
        → (let x : Reply × HubView = cond b (cut_of o, h) (reply.Code code.BadRequest, h) in x.0 ≡ reply.Posted n done) → ⊥
    go true None e = absurd (cc)
    go true (Some t) e = absurd (cc)
    go false o e = absurd (cc)

-- so do they all
pub tells_named : (h : HubView) → Laid h → (r : ℕ) (q : Request) → IsTold q → (x : Reply) → (outcome h r q).0 ≡ x
    → TellsOnly (may_be_awaited (outcome h r q).1.board.lines) (answer.Reply x)
tells_named h laid r q told (reply.Posted n done) is = told_named h laid r q told n done is
tells_named h laid r q told (reply.Code c) is = tt
tells_named h laid r q told (reply.Got m) is = tt
tells_named h laid r q told reply.NotYet is = tt
tells_named h laid r q told reply.Done is = tt
tells_named h laid r q told (reply.Seen e) is = tt
tells_named h laid r q told (reply.Held n e) is = tt
tells_named h laid r q told (reply.AllGot gots) is = tt
tells_named h laid r q told (reply.Link link) is = tt
tells_named h laid r q told (reply.Cut parts size) is = tt

-- posts that were made or awaited are so afterwards
pub grows_after : (h : HubView) (r : ℕ) (q : Request) → IsListed q → Grows h.board.lines (outcome h r q).1.board.lines
grows_after h r q listed = go (makes h r q listed)
  where
    one_more : (p : Post) → (outcome h r q).1.board.lines ≡ add h.board.lines p
        → Grows h.board.lines (outcome h r q).1.board.lines
    one_more p same = subst (Grows h.board.lines) (sym same) (grows_added h.board.lines p)

    go : Makes h r q (outcome h r q).1 → Grows h.board.lines (outcome h r q).1.board.lines
    go (nothing same) = grows_same h.board.lines (outcome h r q).1.board.lines same
    go (a_send s same) = one_more (post.Send s) same
    go (a_receive now comm source tag is same) = one_more (post.Receive (selecting r comm source tag)) same
    go (a_claim what same) = one_more (post.Claim what) same

-- a rank that asks so names posts rightly once it is told the reply
pub names_told : (h : HubView) → Laid h → (r : ℕ) (q : Request) → IsListed q → (rank : Rank) (hart stamp : ℕ) → asked rank hart ≡ Ask.Hub q
    → NamesRightly h.board.lines rank
    → NamesRightly (outcome h r q).1.board.lines (told rank hart (answer.Reply (outcome h r q).0) stamp)
names_told h laid r (request.Send false comm dest tag bytes) listed rank hart stamp asks right =
    go (nat_lt (held_count h.board.bodies) 65536)
  where
    s : Sent
    s = sending r false comm dest tag bytes

    full : Reply × HubView
    full = (reply.Code code.Full, h)

    made : Reply × HubView
    made = (reply.Posted (next_number h.board) (is_done h.board s), with_board h (send_posted h.board s bytes))

    go : (b : Bool)
        → NamesRightly (cond b made full).1.board.lines (told rank hart (answer.Reply (cond b made full).0) stamp)
    go true =
        let e : suc (length h.board.lines) ≡ next_number h.board = (omega arith) in
        rightly_sent h.board.lines (add h.board.lines (post.Send s)) rank hart comm dest tag bytes (next_number h.board) stamp
        asks (grows_added h.board.lines (post.Send s)) right
        (subst (IsNamed (was_made (add h.board.lines (post.Send s)))) e (made_new h.board.lines (post.Send s)))
    go false =
        rightly_told h.board.lines h.board.lines rank hart (answer.Reply (reply.Code code.Full)) stamp
        (grows_same h.board.lines h.board.lines refl) right tt
names_told h laid r (request.Send true comm dest tag bytes) listed rank hart stamp asks right =
    let q = request.Send true comm dest tag bytes in
    rightly_told h.board.lines (outcome h r q).1.board.lines rank hart (answer.Reply (outcome h r q).0) stamp
    (grows_after h r q listed) right (tells_named h laid r q tt (outcome h r q).0 refl)
names_told h laid r (request.Recv now comm source tag) listed rank hart stamp asks right =
    let q = request.Recv now comm source tag in
    rightly_told h.board.lines (outcome h r q).1.board.lines rank hart (answer.Reply (outcome h r q).0) stamp
    (grows_after h r q listed) right (tells_named h laid r q tt (outcome h r q).0 refl)
names_told h laid r (request.Collect n) listed rank hart stamp asks right =
    let q = request.Collect n in
    rightly_told h.board.lines (outcome h r q).1.board.lines rank hart (answer.Reply (outcome h r q).0) stamp
    (grows_after h r q listed) right (tells_named h laid r q tt (outcome h r q).0 refl)
names_told h laid r (request.Finished n) listed rank hart stamp asks right =
    let q = request.Finished n in
    rightly_told h.board.lines (outcome h r q).1.board.lines rank hart (answer.Reply (outcome h r q).0) stamp
    (grows_after h r q listed) right (tells_named h laid r q tt (outcome h r q).0 refl)
names_told h laid r (request.All ns) listed rank hart stamp asks right =
    let q = request.All ns in
    rightly_told h.board.lines (outcome h r q).1.board.lines rank hart (answer.Reply (outcome h r q).0) stamp
    (grows_after h r q listed) right (tells_named h laid r q tt (outcome h r q).0 refl)
names_told h laid r (request.Probe comm source tag) listed rank hart stamp asks right =
    let q = request.Probe comm source tag in
    rightly_told h.board.lines (outcome h r q).1.board.lines rank hart (answer.Reply (outcome h r q).0) stamp
    (grows_after h r q listed) right (tells_named h laid r q tt (outcome h r q).0 refl)
names_told h laid r (request.Claim comm source tag) listed rank hart stamp asks right =
    let q = request.Claim comm source tag in
    rightly_told h.board.lines (outcome h r q).1.board.lines rank hart (answer.Reply (outcome h r q).0) stamp
    (grows_after h r q listed) right (tells_named h laid r q tt (outcome h r q).0 refl)
names_told h laid r (request.Claimed now n) listed rank hart stamp asks right =
    let q = request.Claimed now n in
    rightly_told h.board.lines (outcome h r q).1.board.lines rank hart (answer.Reply (outcome h r q).0) stamp
    (grows_after h r q listed) right (tells_named h laid r q tt (outcome h r q).0 refl)
names_told h laid r (request.Init sends comm peer tag parts size) listed rank hart stamp asks right =
    let q = request.Init sends comm peer tag parts size in
    rightly_told h.board.lines (outcome h r q).1.board.lines rank hart (answer.Reply (outcome h r q).0) stamp
    (grows_after h r q listed) right (tells_named h laid r q tt (outcome h r q).0 refl)
names_told h laid r (request.Cut link) listed rank hart stamp asks right =
    let q = request.Cut link in
    rightly_told h.board.lines (outcome h r q).1.board.lines rank hart (answer.Reply (outcome h r q).0) stamp
    (grows_after h r q listed) right (tells_named h laid r q tt (outcome h r q).0 refl)

pub listed_of : (patterns : Patterns) (r : ℕ) (w : Bool) (q : Request) → IsAllowed patterns r (pattern_of_request w q) → IsListed q
listed_of patterns r w (request.Send sync comm dest tag bytes) is = tt
listed_of patterns r w (request.Recv now comm source tag) is = tt
listed_of patterns r w (request.Collect n) is = tt
listed_of patterns r w (request.Finished n) is = tt
listed_of patterns r w (request.All ns) is = tt
listed_of patterns r w (request.Probe comm source tag) is = tt
listed_of patterns r w (request.Claim comm source tag) is = tt
listed_of patterns r w (request.Claimed now n) is = tt
listed_of patterns r w (request.Init sends comm peer tag parts size) is = tt
listed_of patterns r w (request.Cut link) is = tt

-- ---- a turn, by what it asks

abbrev pub IsOwn : Ask → Type 0
IsOwn Ask.Plain = Unit {0}
IsOwn Ask.Local = Unit {0}
IsOwn Ask.Idle = Unit {0}
IsOwn _ = ⊥

-- a turn of its own, a call of the hub, or a turn at a box
abbrev pub IsMade : Ask → Type 0
IsMade Ask.Held = ⊥
IsMade _ = Unit {0}

-- a turn of its own, or a call of the hub: there is one turn alone
abbrev pub IsOnly : Ask → Type 0
IsOnly Ask.Plain = Unit {0}
IsOnly Ask.Local = Unit {0}
IsOnly Ask.Idle = Unit {0}
IsOnly (Ask.Hub q) = Unit {0}
IsOnly _ = ⊥

pub only_made : (a : Ask) → IsOnly a → IsMade a
only_made Ask.Plain is = tt
only_made Ask.Local is = tt
only_made Ask.Idle is = tt
only_made (Ask.Hub q) is = tt
only_made _ is = absurd is

pub made_of : (patterns : Patterns) (r : ℕ) (w : Bool) (a : Ask) → IsAllowed patterns r (pattern_of_ask w a) → IsMade a
made_of patterns r w Ask.Plain is = tt
made_of patterns r w Ask.Local is = tt
made_of patterns r w Ask.Idle is = tt
made_of patterns r w (Ask.Hub q) is = tt
made_of patterns r w Ask.Held is = absurd is
made_of patterns r w (Ask.Ready link part bytes) is = tt
made_of patterns r w (Ask.Look link part) is = tt
made_of patterns r w (Ask.Freed link part) is = tt

pub made_within : (patterns : Patterns) (r hart : ℕ) (rank : Rank) → IsAllowed patterns r (pattern_of rank hart)
    → IsMade (asked rank hart)
made_within patterns r hart rank is = made_of patterns r (waits_on (doing rank.site (part_of rank hart))) (asked rank hart) is

-- it changes its rank alone, or makes a call, or meets a box
pub data Gone (r hart : ℕ) (c new : Cluster) (rank : Rank) : Type 0 where
  alone : (stamp : ℕ) → IsOwn (asked rank hart) → new.ranks ≡ slice_set c.ranks r (told rank hart answer.Alone stamp)
      → new.journal ≡ c.journal → new.boxes ≡ c.boxes
      → Gone r hart c new rank
  called : (q : Request) → asked rank hart ≡ Ask.Hub q → Called r hart c new rank q → Gone r hart c new rank
  met : IsAtBox (asked rank hart) → AtBox r hart c new rank → Gone r hart c new rank

pub gone : (r hart : ℕ) (c new : Cluster) (rank : Rank) → slice_get c.ranks r ≡ Some rank → IsMade (asked rank hart)
    → Turn r hart c new
    → Gone r hart c new rank
gone r hart c new rank there made turn = go (asked rank hart) refl
  where
    here : slice_get c.ranks turn.step.rank ≡ Some rank
    here = ap (slice_get c.ranks) turn.rank ∙ there

    is_turn : IsTurn c turn.step rank (asked rank hart) new
    is_turn = subst (λ h. IsTurn c turn.step rank (asked rank h) new) turn.hart (turns_law c new turn.step rank here turn.leads)

    only : (kind : Kind) → asked rank hart ≡ asked rank hart → IsOwn (asked rank hart) → IsAlone c turn.step rank kind answer.Alone new
        → Gone r hart c new rank
    only kind e own is =
        alone turn.step.stamp own
        (ap (λ (k : Cluster). k.ranks) is.1
        ∙ ap (λ k. slice_set c.ranks k (told rank turn.step.hart answer.Alone turn.step.stamp)) turn.rank
        ∙ ap (λ h. slice_set c.ranks r (told rank h answer.Alone turn.step.stamp)) turn.hart)
        (ap (λ (k : Cluster). k.journal) is.1)
        (ap (λ (k : Cluster). k.boxes) is.1)

    meets : IsAtBox (asked rank hart) → Gone r hart c new rank
    meets at = met at (at_box r hart c new rank there at turn)

    go : (a : Ask) → asked rank hart ≡ a → Gone r hart c new rank
    go Ask.Plain is = only Kind.Plain refl (subst IsOwn (sym is) tt) (subst (λ a. IsTurn c turn.step rank a new) is is_turn)
    go Ask.Local is = only Kind.Local refl (subst IsOwn (sym is) tt) (subst (λ a. IsTurn c turn.step rank a new) is is_turn)
    go Ask.Idle is = only Kind.Idle refl (subst IsOwn (sym is) tt) (subst (λ a. IsTurn c turn.step rank a new) is is_turn)
    go (Ask.Hub q) is = called q is (call_of r hart c new rank q there is turn)
    go Ask.Held is = absurd (subst IsMade is made)
    go (Ask.Ready link part bytes) is = meets (subst IsAtBox (sym is) tt)
    go (Ask.Look link part) is = meets (subst IsAtBox (sym is) tt)
    go (Ask.Freed link part) is = meets (subst IsAtBox (sym is) tt)

-- ---- posts

abbrev pub plans_of : (ℕ → ℕ) → Plans
plans_of harts = λ r n. harts r

abbrev pub at_start : Cluster → Node
at_start c = record { cluster = c; had = none_had }

pub goes_of : (harts : ℕ → ℕ) (r : ℕ) (c new : Cluster) (had : Turns) → Turn r (harts r) c new
    → Goes (plans_of harts) r (record { cluster = c; had = had }) (record { cluster = new; had = one_more had r })
goes_of harts r c new had turn = record {
  step = turn.step;
  rank = turn.rank;
  hart = turn.hart;
  leads = turn.leads;
  had = refl;
}

pub grows_by : (harts : ℕ → ℕ) (r : ℕ) (c new : Cluster) → Turn r (harts r) c new
    → (posts_of c ≤ posts_of new) × (posts_of new ≤ posts_of c + 1)
grows_by harts r c new turn =
    let g = goes_of harts r c new none_had turn in (
      turn_posts (plans_of harts) r (at_start c) (record { cluster = new; had = one_more none_had r }) g,
      turn_posts_most (plans_of harts) r (at_start c) (record { cluster = new; had = one_more none_had r }) g,
    )

-- ---- a turn keeps what holds

-- a box is set
sound_set : (boxes : List Box) (n : ℕ) (box : Box) → AreSound boxes → AlikeBoxes box box → AreSound (slice_set boxes n box)
sound_set boxes n box sound same i z here = elim (cases_eq n i) [
  | inl at ↦
      let w = was_there boxes n box z (subst (λ k. slice_get (slice_set boxes n box) k ≡ Some z) (sym at) here) in
      subst (λ (b : Box). AlikeBoxes b b) w.0 same
  | inr other ↦ sound i z (sym (get-set_other boxes n i box other) ∙ here)
]

module _ (search : Search) (r : ℕ) (c new : Cluster) (rank : Rank) (there : slice_get c.ranks r ≡ Some rank)
    (good : IsGood search c) (within : IsWithin search c r) (turn : Turn r (search.harts r) c new) where
  -- what holds of the rank that was told, and of each other one, holds of all
  each_rank : (P : ℕ → Rank → Type 0) (a : Answer) (stamp : ℕ)
      → new.ranks ≡ slice_set c.ranks r (told rank (search.harts r) a stamp) → P r (told rank (search.harts r) a stamp)
      → ((s : ℕ) (x : Rank) → slice_get c.ranks s ≡ Some x → P s x)
      → (s : ℕ) (x : Rank) → slice_get new.ranks s ≡ Some x → P s x
  each_rank P a stamp ranks mine others s x here = elim (cases_eq r s) [
    | inl same ↦
        let w = was_there c.ranks r (told rank (search.harts r) a stamp) x
        (subst (λ k. slice_get (slice_set c.ranks r (told rank (search.harts r) a stamp)) k ≡ Some x) (sym same)
        (ap (λ xs. slice_get xs s) (sym ranks) ∙ here)) in
        subst (λ k. P k x) same (subst (P r) w.0 mine)
    | inr other ↦
        others s x (sym (get-set_other c.ranks r s (told rank (search.harts r) a stamp) other)
        ∙ ap (λ xs. slice_get xs s) (sym ranks) ∙ here)
  ]

  pub good_after : IsGood search new
  good_after = go (gone r (search.harts r) c new rank there
      (made_within search.patterns r (search.harts r) rank (within rank there).0) turn)
    where
      names_after : (a : Answer) (stamp : ℕ) → new.ranks ≡ slice_set c.ranks r (told rank (search.harts r) a stamp)
          → Grows (hub_of c.journal).board.lines (hub_of new.journal).board.lines
          → NamesRightly (hub_of new.journal).board.lines (told rank (search.harts r) a stamp)
          → (s : ℕ) (x : Rank) → slice_get new.ranks s ≡ Some x
          → NamesRightly (hub_of new.journal).board.lines x
      names_after a stamp ranks grow mine =
          each_rank (λ s x. NamesRightly (hub_of new.journal).board.lines x) a stamp ranks mine
          (λ s x here. rightly_more (hub_of c.journal).board.lines (hub_of new.journal).board.lines x grow (good.names s x here))

      stands_after : (a : Answer) (stamp : ℕ) → new.ranks ≡ slice_set c.ranks r (told rank (search.harts r) a stamp)
          → HasNoBytes a
          → (s : ℕ) (x : Rank) → slice_get new.ranks s ≡ Some x → StandsAtCall x (search.harts s)
      stands_after a stamp ranks bytes =
          each_rank (λ s x. StandsAtCall x (search.harts s)) a stamp ranks
          ((wake_law.stands) rank (search.harts r) stamp a (good.stands r rank there) bytes)
          good.stands

      -- a turn at a box
      left : (a : Answer) (stamp : ℕ) (now : List Box) → (l : Leaves r (search.harts r) c new rank a stamp now)
          → TellsOnly (may_be_awaited (hub_of c.journal).board.lines) a → AreSound now
          → ((s : ℕ) (x : Rank) → slice_get new.ranks s ≡ Some x → StandsAtCall x (search.harts s))
          → IsGood search new
      left a stamp now l tells sound stands = record {
        waits = subst (λ j. WaitsWithin search.wild (hub_of j)) (sym l.journal) good.waits;
        names = names_after a stamp l.ranks
            (grows_same (hub_of c.journal).board.lines (hub_of new.journal).board.lines
            (ap (λ j. (hub_of j).board.lines) l.journal))
            (subst (λ j. NamesRightly (hub_of j).board.lines (told rank (search.harts r) a stamp))
            (sym l.journal)
            (rightly_told (hub_of c.journal).board.lines (hub_of c.journal).board.lines rank
            (search.harts r) a stamp (grows_same (hub_of c.journal).board.lines (hub_of c.journal).board.lines refl)
            (good.names r rank there) tells));
        boxes = subst AreSound (sym l.boxes) sound;
        stands = stands;
      }

      go : Gone r (search.harts r) c new rank → IsGood search new
      go (alone stamp own ranks journal boxes) = record {
        waits = subst (λ j. WaitsWithin search.wild (hub_of j)) (sym journal) good.waits;
        names = names_after answer.Alone stamp ranks
            (grows_same (hub_of c.journal).board.lines (hub_of new.journal).board.lines
            (ap (λ j. (hub_of j).board.lines) journal))
            (subst (λ j. NamesRightly (hub_of j).board.lines (told rank (search.harts r) answer.Alone stamp))
            (sym journal)
            (rightly_told (hub_of c.journal).board.lines (hub_of c.journal).board.lines rank
            (search.harts r) answer.Alone stamp
            (grows_same (hub_of c.journal).board.lines (hub_of c.journal).board.lines refl) (good.names r rank there) tt));
        boxes = subst AreSound (sym boxes) good.boxes;
        stands = stands_after answer.Alone stamp ranks tt;
      }
      go (called q asks k) =
          let listed = listed_of search.patterns r (waits_on (doing rank.site (part_of rank (search.harts r)))) q
          (subst (λ a. IsAllowed search.patterns r
          (pattern_of_ask (waits_on (doing rank.site (part_of rank (search.harts r)))) a)) asks (within rank there).0) in
          let o = outcome (hub_of c.journal) r q in
          record {
            waits = subst (WaitsWithin search.wild) (sym k.hubs)
                (waits_after search.wild (hub_of c.journal) good.waits r q listed
                (subst (AskWithin search.wild r) asks (within rank there).1));
            names = names_after (answer.Reply o.0) k.stamp k.ranks
                (subst (λ (h : HubView). Grows (hub_of c.journal).board.lines h.board.lines) (sym k.hubs)
                (grows_after (hub_of c.journal) r q listed))
                (subst (λ (h : HubView). NamesRightly h.board.lines
                (told rank (search.harts r) (answer.Reply o.0) k.stamp)) (sym k.hubs)
                (names_told (hub_of c.journal) (laid_after c.journal.links (calls_of c.journal.entries)) r q listed rank (search.harts r)
                k.stamp asks (good.names r rank there)));
            boxes = subst AreSound (sym k.boxes) good.boxes;
            stands = stands_after (answer.Reply o.0) k.stamp k.ranks tt;
          }
      go (met at (readied link part bytes box stamp asks is_box empty l)) =
          left answer.Alone stamp _ l tt
          (sound_set c.boxes (box_number link part) (with_made box stamp bytes) good.boxes
          (made_alike box box bytes stamp stamp empty empty))
          (stands_after answer.Alone stamp l.ranks tt)
      go (met at (took link part bytes box stamp asks is_box holds l)) =
          let full = holds_too box box bytes (good.boxes (box_number link part) box is_box) holds in
          left (answer.Taken bytes) stamp _ l tt
          (sound_set c.boxes (box_number link part) (with_taken box stamp) good.boxes
          (taken_alike box box bytes stamp stamp full.0 full.1))
          (each_rank (λ s x. StandsAtCall x (search.harts s)) (answer.Taken bytes) stamp l.ranks
          (stands_taken rank (search.harts r) stamp bytes (good.stands r rank there) at)
          good.stands)
      go (met at (freed link part box stamp asks is_box empty l)) =
          left answer.Freed stamp c.boxes l tt good.boxes (stands_after answer.Freed stamp l.ranks tt)
      go (met at (misses stamp look l)) =
          left answer.Missed stamp c.boxes l tt good.boxes (stands_after answer.Missed stamp l.ranks tt)
