-- What isn't a rank's own is refused, what is refused changes nothing, and each reply is one to its request.
use Rattle.std.proofs.Common.{◌≡◌, ◌<◌, ℕ, zero, suc, inl, inr, List, [], ◌∷◌, length, Bool, true, false, cond, not, Option, Some, None, refl, sym, ap, ◌∙◌, subst, arith}
use Rattle.std.specs.Prelude.{◌&&◌, nat_lt, get_or}
use Rattle.std.specs.List.{slice_get, list_all, Contains}
use Rattle.std.proofs.lemmas.Bool.{and_parts, eqb-true, not-true}
use Rattle.rv_image_types.specs.declared.images.Link.{Link}
use Rattle.mp_types.specs.declared.messages.Envelope.{Envelope}
use Rattle.mp_types.specs.declared.messages.Message.{Message}
use Rattle.mp_types.specs.declared.codes.Code.{Code}
use Rattle.mp_types.specs.declared.codes.Code.TheVariants.{BadRequest, BadMessage, Full, Shape}
use Rattle.mp_types.specs.declared.replies.Reply.{Reply}
use Rattle.mp_types.specs.declared.replies.Reply.TheVariants as reply
use Rattle.mp_types.specs.declared.requests.Request.{Request}
use Rattle.mp_types.specs.declared.requests.Request.TheVariants.{Send, Recv, Collect, Finished, Probe, Claim, Claimed, All, Init, Cut}
use Rattle.mp_match.specs.declared.posts.Post.{Post}
use Rattle.mp_match.specs.declared.posts.Post.TheVariants as post
use Rattle.mp_match.specs.declared.posts.Line.{Line}
use Rattle.mp_match.specs.PostPairs.{posts_of}
use Rattle.mp_match.specs.Board.{collect, receive_posted, send_posted, held_count, probed, partner_of, line_of, is_send_of, is_receive_of, is_gone, is_held, is_collected}
use Rattle.mp_probe.specs.Claims.{next_number, may_receive, is_waiting, without_claim}
use Rattle.mp_transfers.specs.declared.sides.Setup.{Setup}
use Rattle.mp_transfers.specs.declared.sides.Side.{Side}
use Rattle.mp_transfers.specs.Inits.{peer_of, lowest_link, same_total, sender_over, is_receiver}
use Rattle.mp_hub.specs.Hub.{HubView, Call, outcome, message_or, got_or, claim_found, claimed_now, is_complete, may_collect, init_with, init_first, cut_of, setup_of, side_added, all_got, all_collected, are_distinct, is_known, is_ready, sending, selecting, with_board, with_claims, is_done, hub_after, reply_of, seen}
use Rattle.mp_hub.specs.Histories.{posts_after, got_after, received_after}
use Rattle.mp_hub.specs.Losses.{ClaimsOf, CollectsOf}
use Rattle.mp_hub.specs.Replies.{SendsOf, IsNumberOf, OwnersLaw, IsReplyTo, RepliesLaw}
use Rattle.mp_hub.proofs.SentKept.{all_length}
use Rattle.mp_hub.proofs.HeldKept.{stock}
use Rattle.mp_hub.proofs.Handles.{handles, receiving_claim, may_wait, not_true, or_cases}
use Rattle.mp_hub.proofs.Histories.{hub_more, lines_posts}
use Rattle.mp_hub.proofs.Losses.{all_at, post_out, post_at, send_there, claimed}

held_is : (o : Option (Option (List ℕ))) → is_held o ≡ true → (x : List ℕ) × (o ≡ Some (Some x))
held_is None e = absurd (cc)
held_is (Some None) e = absurd (cc)
held_is (Some (Some x)) e = (x, refl)

not_false : (b : Bool) → not b ≡ false → b ≡ true
not_false true e = refl
not_false false e = absurd (cc)

contains_at : (xs : List ℕ) (k y : ℕ) → k < length xs → get_or xs k y ≡ y → slice_get xs k ≡ Some y
contains_at [] k y lt e = absurd (omega (arith, lt))
contains_at (x ∷ xs) zero y lt e = ap (λ z. Some z) e
contains_at (x ∷ xs) (suc k) y lt e = contains_at xs k y (omega (arith, lt)) e

module _ (links : List Link) (calls : List Call) where
  abbrev now : HubView
  now = hub_after links calls

  after_post : (place : ℕ) (l : Line) → slice_get (now).board.lines place ≡ Some l
      → slice_get (posts_after links calls) place ≡ Some l.post
  after_post place l e =
      ap (λ ps. slice_get ps place) (sym (lines_posts links calls)) ∙ post_out links calls (now).board.lines place l e

  -- what may be collected is the rank's own, and wasn't got
  collects_own : (rank n : ℕ) → may_collect (now) rank n ≡ true
      → IsNumberOf (CollectsOf links calls rank) n × (Contains (got_after links calls) n → ⊥)
  collects_own rank n may = (own n parts.0 past, kept)
    where
      parts : (is_receive_of rank (line_of (now).board n) ≡ true) × (not (is_waiting (now).claims n) ≡ true)
          × (not (is_collected (now).board n) ≡ true)
      parts =
          let a = is_receive_of rank (line_of (now).board n) in
          let b = not (is_waiting (now).claims n) in
          let p = and_parts (a && b) (not (is_collected (now).board n)) may in
          let q = and_parts a b p.0 in
          (q.0, q.1, p.1)

      past : is_waiting (now).claims n ≡ false
      past = not-true (is_waiting (now).claims n) parts.1

      own : (n : ℕ) → is_receive_of rank (line_of (now).board n) ≡ true → is_waiting (now).claims n ≡ false
          → IsNumberOf (CollectsOf links calls rank) n
      own zero e f = absurd (cc)
      own (suc place) e f = go (slice_get (now).board.lines place) refl e
        where
          line : (p : Post) (o : Option ℕ) → slice_get (now).board.lines place ≡ Some (record { post = p; partner = o })
              → is_receive_of rank (Some (record { post = p; partner = o })) ≡ true
              → IsNumberOf (CollectsOf links calls rank) (suc place)
          line (post.Send s) o at g = absurd (cc)
          line (post.Receive a) o at g =
              (place, refl, inl (a, after_post place _ at, eqb-true a.rank rank g))
          line (post.Claim a) o at g =
              elim ((handles links calls).waits place a
              (post_at links calls place (post.Claim a) (after_post place _ at))) [
                | inl c ↦ (place, refl, inr ((a, after_post place _ at, eqb-true a.rank rank g), c))
                | inr w ↦ (let no : true ≡ false = sym (may_wait (now).claims a.rank (suc place) w) ∙ f in absurd (cc))
              ]

          go : (o : Option Line) → slice_get (now).board.lines place ≡ o → is_receive_of rank o ≡ true
              → IsNumberOf (CollectsOf links calls rank) (suc place)
          go None at g = absurd (cc)
          go (Some l) at g = line l.post l.partner at g

      kept : Contains (got_after links calls) n → ⊥
      kept c =
          let g = (stock links calls).gone n c in
          let gone : is_collected (now).board n ≡ false = not-true (is_collected (now).board n) parts.2 in
          let at : partner_of (now).board n ≡ Some g.2 = ap (partner_of (now).board) g.1 ∙ g.3 in
          let held = held_is (slice_get (now).board.bodies g.2)
          (not_false (is_held (slice_get (now).board.bodies g.2)) (sym (ap (is_gone (now).board) at) ∙ gone)) in
          g.5 held.0 held.1

  sends_own : (rank n : ℕ) → is_send_of rank (line_of (now).board n) ≡ true → IsNumberOf (SendsOf links calls rank) n
  sends_own rank n e = (let t = send_there links calls rank n e in (t.0, t.2, (t.1, t.3, t.4)))

  -- what may be received is the rank's own claim, and wasn't received
  claims_own : (rank n : ℕ) → may_receive (now).claims rank n ≡ true
      → IsNumberOf (ClaimsOf links calls rank) n × (Contains (received_after links calls) n → ⊥)
  claims_own rank n may =
      let c = receiving_claim (posts_of (now).board.lines) (now).claims rank n (handles links calls).owned may in (
        (c.0, c.2, (c.1, ap (λ ps. slice_get ps c.0) (sym (lines_posts links calls)) ∙ c.3, c.4)),
        λ t.
            (let no : true ≡ false = sym (may_wait (now).claims rank n may) ∙ (handles links calls).past n t in cc),
      )

  collect_refused : (rank n : ℕ) → (may_collect (now) rank n ≡ true → ⊥)
      → reply_of links calls rank (Collect n) ≡ reply.Code BadRequest
  collect_refused rank n may_not =
      ap (λ b. (let o : Reply × HubView =
      cond b (got_or (now) reply.NotYet (collect (now).board n)) (reply.Code BadRequest, now) in o.0))
      (not_true (may_collect (now) rank n) may_not)

  finished_refused : (rank n : ℕ) → (is_send_of rank (line_of (now).board n) ≡ true → ⊥)
      → reply_of links calls rank (Finished n) ≡ reply.Code BadRequest
  finished_refused rank n may_not =
      ap (λ b. (let o : Reply × HubView =
      cond b (cond (is_complete (now) n) reply.Done reply.NotYet, now) (reply.Code BadRequest, now) in o.0))
      (not_true (is_send_of rank (line_of (now).board n)) may_not)

  claimed_refused : (rank n : ℕ) (at_once : Bool) → (may_receive (now).claims rank n ≡ true → ⊥)
      → reply_of links calls rank (Claimed at_once n) ≡ reply.Code BadMessage
  claimed_refused rank n at_once may_not =
      ap (λ b. (let o : Reply × HubView =
      cond b (claimed_now (with_claims (now) (without_claim (now).claims rank n)) at_once n) (reply.Code BadMessage, now) in
      o.0))
      (not_true (may_receive (now).claims rank n) may_not)

  all_refused : (rank n : ℕ) (ns : List ℕ) → Contains ns n → (may_collect (now) rank n ≡ true → ⊥)
      → (is_send_of rank (line_of (now).board n) ≡ true → ⊥)
      → reply_of links calls rank (All ns) ≡ reply.Code BadRequest
  all_refused rank n ns there no_receive no_send =
      ap (λ b. (let o : Reply × HubView =
      cond b
      (cond (list_all (λ n. is_ready (now) rank n) ns) (all_collected (now) (all_got rank (now).board ns))
      (reply.NotYet, now))
      (reply.Code BadRequest, now) in o.0))
      (not_true (are_distinct ns && list_all (λ n. is_known (now) rank n) ns) (λ e.
      let known = all_at links calls (λ n. is_known (now) rank n) ns there.0 n
      (and_parts (are_distinct ns) (list_all (λ n. is_known (now) rank n) ns) e).1
      (contains_at ns there.0 n there.1 there.2) in
      elim (or_cases (may_collect (now) rank n) (is_send_of rank (line_of (now).board n)) known) [
        | inl c ↦ no_receive c
        | inr s ↦ no_send s
      ]))

-- ---- what is refused

abbrev Unchanged : HubView → Reply × HubView → Type 0
Unchanged h o = (c : Code) → o.0 ≡ reply.Code c → o.1 ≡ h

either : (h : HubView) (c : Bool) (x y : Reply × HubView) → Unchanged h x → Unchanged h y → Unchanged h (cond c x y)
either h true x y p n = p
either h false x y p n = n

no_code : (other : Reply) (o : Option Message) (c : Code) → ((d : Code) → other ≡ reply.Code d → ⊥)
    → message_or other o ≡ reply.Code c → ⊥
no_code other None c plain e = plain c e
no_code other (Some m) c plain e = cc

unchanged : (h : HubView) (rank : ℕ) (q : Request) → Unchanged h (outcome h rank q)
unchanged h rank (Send sync comm dest tag bytes) =
    either h (nat_lt (held_count h.board.bodies) 65536) (
      reply.Posted (next_number h.board) (is_done h.board (sending rank sync comm dest tag bytes)),
      with_board h (send_posted h.board (sending rank sync comm dest tag bytes) bytes),
    )
    (reply.Code Full, h) (λ c e. absurd (cc)) (λ c e. refl)
unchanged h rank (Recv true comm source tag) =
    λ c e. absurd (no_code (reply.Posted (next_number h.board) false)
    (collect (receive_posted h.board (selecting rank comm source tag)) (next_number h.board)).0 c (λ d f. cc) e)
unchanged h rank (Recv false comm source tag) = λ c e. absurd (cc)
unchanged h rank (Collect n) =
    either h (may_collect h rank n) (got_or h reply.NotYet (collect h.board n)) (reply.Code BadRequest, h)
    (λ c e. absurd (no_code reply.NotYet (collect h.board n).0 c (λ d f. cc) e)) (λ c e. refl)
unchanged h rank (Finished n) =
    either h (is_send_of rank (line_of h.board n)) (cond (is_complete h n) reply.Done reply.NotYet, h)
    (reply.Code BadRequest, h) (λ c e. refl) (λ c e. refl)
unchanged h rank (Probe comm source tag) = λ c e. refl
unchanged h rank (Claim comm source tag) = go (probed h.board (post.Claim (selecting rank comm source tag)))
  where
    go : (o : Option Envelope) → Unchanged h (claim_found h (selecting rank comm source tag) o)
    go None c e = absurd (cc)
    go (Some k) c e = absurd (cc)
unchanged h rank (Claimed at_once n) =
    either h (may_receive h.claims rank n)
    (claimed_now (with_claims h (without_claim h.claims rank n)) at_once n) (reply.Code BadMessage, h)
    (go at_once) (λ c e. refl)
  where
    go : (at_once : Bool) → Unchanged h (claimed_now (with_claims h (without_claim h.claims rank n)) at_once n)
    go true c e = absurd (no_code reply.NotYet (collect h.board n).0 c (λ d f. cc) e)
    go false c e = absurd (cc)
unchanged h rank (All ns) =
    either h (are_distinct ns && list_all (λ n. is_known h rank n) ns)
    (cond (list_all (λ n. is_ready h rank n) ns) (all_collected h (all_got rank h.board ns)) (reply.NotYet, h))
    (reply.Code BadRequest, h)
    (either h (list_all (λ n. is_ready h rank n) ns) (all_collected h (all_got rank h.board ns)) (reply.NotYet, h)
    (λ c e. absurd (cc)) (λ c e. refl))
    (λ c e. refl)
unchanged h rank (Init sends comm peer tag parts size) =
    go (setup_of rank sends comm peer tag parts size) (peer_of h.sides (setup_of rank sends comm peer tag parts size))
  where
    first : (s : Setup) (o : Option ℕ) → Unchanged h (init_first h s o)
    first s None c e = refl
    first s (Some k) c e = absurd (cc)

    go : (s : Setup) (o : Option Side) → Unchanged h (init_with h s o)
    go s None = first s (lowest_link h.links h.sides s)
    go s (Some t) =
        either h (same_total s t.setup) (side_added h s t.link) (reply.Code Shape, h) (λ c e. absurd (cc)) (λ c e. refl)
unchanged h rank (Cut link) =
    either h (is_receiver h.links rank link) (cut_of (sender_over h.sides link), h) (reply.Code BadRequest, h)
    (λ c e. refl) (λ c e. refl)

pub owners_law : OwnersLaw
owners_law = record {
  collects = λ links calls rank n theirs.
      collect_refused links calls rank n (λ e. theirs (collects_own links calls rank n e).0);
  collects_once = λ links calls rank n got.
      collect_refused links calls rank n (λ e. (collects_own links calls rank n e).1 got);
  finishes = λ links calls rank n theirs.
      finished_refused links calls rank n (λ e. theirs (sends_own links calls rank n e));
  claims = λ links calls rank n at_once theirs.
      claimed_refused links calls rank n at_once (λ e. theirs (claims_own links calls rank n e).0);
  claims_once = λ links calls rank n at_once taken.
      claimed_refused links calls rank n at_once (λ e. (claims_own links calls rank n e).1 taken);
  all = λ links calls rank n ns there no_send theirs.
      all_refused links calls rank n ns there
      (λ e. elim theirs [
        | inl other ↦ other (collects_own links calls rank n e).0
        | inr got ↦ (collects_own links calls rank n e).1 got
      ])
      (λ e. no_send (sends_own links calls rank n e));
  unchanged = λ links calls rank q c e.
      hub_more links calls (rank, q) ∙ unchanged (hub_after links calls) rank q c e;
}

-- ---- which reply belongs to which request

abbrev Fit : Request → Reply × HubView → Type 0
Fit q o = IsReplyTo q o.0

either_fits : (q : Request) (c : Bool) (x y : Reply × HubView) → Fit q x → Fit q y → Fit q (cond c x y)
either_fits q true x y p n = p
either_fits q false x y p n = n

replies : (links : List Link) (calls : List Call) (rank : ℕ) (q : Request)
    → Fit q (outcome (hub_after links calls) rank q)
replies links calls rank (Send sync comm dest tag bytes) =
    let h = hub_after links calls in
    either_fits (Send sync comm dest tag bytes) (nat_lt (held_count h.board.bodies) 65536) (
      reply.Posted (next_number h.board) (is_done h.board (sending rank sync comm dest tag bytes)),
      with_board h (send_posted h.board (sending rank sync comm dest tag bytes) bytes),
    )
    (reply.Code Full, h) tt refl
replies links calls rank (Recv true comm source tag) =
    go (collect (receive_posted (hub_after links calls).board (selecting rank comm source tag))
    (next_number (hub_after links calls).board)).0
  where
    go : (o : Option Message)
        → IsReplyTo (Recv true comm source tag)
        (message_or (reply.Posted (next_number (hub_after links calls).board) false) o)
    go None = refl
    go (Some m) = refl
replies links calls rank (Recv false comm source tag) = refl
replies links calls rank (Collect n) =
    let h = hub_after links calls in
    either_fits (Collect n) (may_collect h rank n) (got_or h reply.NotYet (collect h.board n))
    (reply.Code BadRequest, h)
    (go (collect h.board n).0) refl
  where
    go : (o : Option Message) → IsReplyTo (Collect n) (message_or reply.NotYet o)
    go None = tt
    go (Some m) = tt
replies links calls rank (Finished n) =
    go (is_send_of rank (line_of (hub_after links calls).board n)) (is_complete (hub_after links calls) n)
  where
    go : (c d : Bool)
        → Fit (Finished n) (cond c (cond d reply.Done reply.NotYet, hub_after links calls)
        (reply.Code BadRequest, hub_after links calls))
    go true true = tt
    go true false = tt
    go false d = refl
replies links calls rank (Probe comm source tag) =
    go (probed (hub_after links calls).board (post.Receive (selecting rank comm source tag)))
  where
    go : (o : Option Envelope) → IsReplyTo (Probe comm source tag) (seen o)
    go None = tt
    go (Some e) = tt
replies links calls rank (Claim comm source tag) =
    go (probed (hub_after links calls).board (post.Claim (selecting rank comm source tag)))
  where
    go : (o : Option Envelope)
        → Fit (Claim comm source tag) (claim_found (hub_after links calls) (selecting rank comm source tag) o)
    go None = tt
    go (Some e) = tt
replies links calls rank (Claimed true n) =
    go (may_receive (hub_after links calls).claims rank n) refl
  where
    -- a message that may be received is there
    there : may_receive (hub_after links calls).claims rank n ≡ true
        → IsReplyTo (Claimed true n) (reply_of links calls rank (Claimed true n))
    there e =
        let c = claims_own links calls rank n e in
        let m = claimed links calls rank (c.0).0 (c.0).2
        (λ t. c.1 (subst (λ k. Contains (received_after links calls) k) (sym (c.0).1) t)) in
        subst (λ r. IsReplyTo (Claimed true n) r)
        (sym (ap (λ k. reply_of links calls rank (Claimed true k)) (c.0).1 ∙ m.1)) refl

    go : (b : Bool) → may_receive (hub_after links calls).claims rank n ≡ b
        → IsReplyTo (Claimed true n) (reply_of links calls rank (Claimed true n))
    go true e = there e
    go false e =
        subst (λ r. IsReplyTo (Claimed true n) r)
        (sym (claimed_refused links calls rank n true (λ f. (let no : true ≡ false = sym f ∙ e in cc)))) refl
replies links calls rank (Claimed false n) =
    let h = hub_after links calls in
    either_fits (Claimed false n) (may_receive h.claims rank n)
    (claimed_now (with_claims h (without_claim h.claims rank n)) false n) (reply.Code BadMessage, h)
    (refl, refl, refl) refl
replies links calls rank (All ns) =
    let h = hub_after links calls in
    either_fits (All ns) (are_distinct ns && list_all (λ n. is_known h rank n) ns)
    (cond (list_all (λ n. is_ready h rank n) ns) (all_collected h (all_got rank h.board ns)) (reply.NotYet, h))
    (reply.Code BadRequest, h)
    (either_fits (All ns) (list_all (λ n. is_ready h rank n) ns) (all_collected h (all_got rank h.board ns))
    (reply.NotYet, h) (all_length rank ns h.board) tt)
    refl
replies links calls rank (Init sends comm peer tag parts size) =
    go (setup_of rank sends comm peer tag parts size)
    (peer_of (hub_after links calls).sides (setup_of rank sends comm peer tag parts size))
  where
    first : (s : Setup) (o : Option ℕ)
        → Fit (Init sends comm peer tag parts size) (init_first (hub_after links calls) s o)
    first s None = inl refl
    first s (Some k) = tt

    go : (s : Setup) (o : Option Side)
        → Fit (Init sends comm peer tag parts size) (init_with (hub_after links calls) s o)
    go s None = first s (lowest_link (hub_after links calls).links (hub_after links calls).sides s)
    go s (Some t) =
        either_fits (Init sends comm peer tag parts size) (same_total s t.setup)
        (side_added (hub_after links calls) s t.link)
        (reply.Code Shape, hub_after links calls) tt (inr refl)
replies links calls rank (Cut link) =
    go (is_receiver (hub_after links calls).links rank link) (sender_over (hub_after links calls).sides link)
  where
    go : (c : Bool) (o : Option Side)
        → Fit (Cut link) (cond c (cut_of o, hub_after links calls) (reply.Code BadRequest, hub_after links calls))
    go true None = tt
    go true (Some t) = tt
    go false o = refl

pub replies_law : RepliesLaw
replies_law = replies
