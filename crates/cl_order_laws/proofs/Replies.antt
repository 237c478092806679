-- The number that a reply tells of a post is the same in alike hubs.
use Rattle.std.proofs.Common.{◌≡◌, ℕ, suc, length, List, Bool, true, false, cond, Option, Some, None, refl, sym, ap, ◌∙◌, subst, arith}
use Rattle.std.specs.Prelude.{◌&&◌, nat_lt}
use Rattle.std.specs.List.{list_all}
use Rattle.rv_image_types.specs.declared.images.Link.{Link}
use Rattle.mp_types.specs.declared.codes.Code.TheVariants.{BadMessage, BadRequest, Full, Shape}
use Rattle.mp_types.specs.declared.messages.Envelope.{Envelope}
use Rattle.mp_types.specs.declared.messages.Message.{Message}
use Rattle.mp_types.specs.declared.replies.Reply.{Reply}
use Rattle.mp_types.specs.declared.replies.Reply.TheVariants as reply
use Rattle.mp_types.specs.declared.requests.Request.{Request}
use Rattle.mp_types.specs.declared.requests.Request.TheVariants.{Send, Recv, Collect, Finished, Probe, Claim, Claimed, All, Init, Cut}
use Rattle.mp_match.specs.declared.posts.Post.TheVariants as post
use Rattle.mp_match.specs.Board.{collect, held_count, is_send_of, line_of, probed, receive_posted, send_posted}
use Rattle.mp_probe.specs.Claims.{may_receive, next_number, without_claim}
use Rattle.mp_transfers.specs.declared.sides.Setup.{Setup}
use Rattle.mp_transfers.specs.declared.sides.Side.{Side}
use Rattle.mp_transfers.specs.Inits.{is_receiver, lowest_link, peer_of, same_total, sender_over}
use Rattle.mp_hub.specs.Hub.{Call, HubView, all_collected, all_got, are_distinct, claim_found, claimed_now, cut_of, got_or, hub_after, init_first, init_with, is_complete, is_done, is_known, is_ready, may_collect, message_or, outcome, reply_of, seen, selecting, sending, setup_of, side_added, with_board, with_claims}
use Rattle.mp_wait_laws.proofs.Owned.{owned_after, waits_for_it}
use Rattle.mp_alike_laws.specs.Renaming.{Renaming, number_by}
use Rattle.mp_alike_laws.specs.Alike.{AlikeHubs}
use Rattle.mp_alike_laws.proofs.Named.{kept}

module _ (names : Renaming) (number : ℕ) (done : Bool) where
  -- where the reply tells this post's number, it is the same by both names
  abbrev Tells : Reply → Type 0
  Tells r = r ≡ reply.Posted number done → number_by names number ≡ number

  silent : (r : Reply) → (r ≡ reply.Posted number done → ⊥) → Tells r
  silent r not e = absurd (not e)

  either : (b : Bool) (x y : Reply × HubView) → (b ≡ true → Tells x.0) → Tells y.0
      → (let o : Reply × HubView = cond b x y in Tells o.0)
  either true x y s t = s refl
  either false x y s t = t

  posted : (n : ℕ) (d : Bool) → number_by names n ≡ n → Tells (reply.Posted n d)
  posted n d same e = (let f : n ≡ number = (cc) in subst (λ k. number_by names k ≡ k) f same)

  message : (r : Reply) (o : Option Message) → Tells r → Tells (message_or r o)
  message r None t = t
  message r (Some m) t = λ e. absurd (cc)

  no_message : (o : Option Message) → Tells (message_or reply.NotYet o)
  no_message o = message reply.NotYet o (λ e. absurd (cc))

  told_by_init : (h : HubView) (s : Setup) (o : Option Side) → Tells (init_with h s o).0
  told_by_init h s None = free (lowest_link h.links h.sides s)
    where
      free : (o : Option ℕ) → Tells (init_first h s o).0
      free None e = absurd (cc)
      free (Some link) e = absurd (cc)
  told_by_init h s (Some peer) =
      either (same_total s peer.setup) (side_added h s peer.link) (reply.Code Shape, h) (λ b e. absurd (cc)) (λ e. absurd (cc))

  seen_tells : (o : Option Envelope) → Tells (seen o)
  seen_tells None e = absurd (cc)
  seen_tells (Some envelope) e = absurd (cc)

  found_tells : (h : HubView) (a : _) (o : Option Envelope) → Tells (claim_found h a o).0
  found_tells h a None e = absurd (cc)
  found_tells h a (Some envelope) e = absurd (cc)

  cut_tells : (o : Option Side) → Tells (cut_of o)
  cut_tells None e = absurd (cc)
  cut_tells (Some side) e = absurd (cc)

  done_tells : (b : Bool) → Tells (cond b reply.Done reply.NotYet)
  done_tells true e = absurd (cc)
  done_tells false e = absurd (cc)

  refused : (h : HubView) (r : Reply) → (r ≡ reply.Posted number done → ⊥) → (let o : Reply × HubView = (r, h) in Tells o.0)
  refused h r not e = absurd (not e)

  module _ (h k : HubView) (alike : AlikeHubs names h k)
      (waits : (rank n : ℕ) → may_receive h.claims rank n ≡ true → number_by names n ≡ n) where
    next : number_by names (next_number h.board) ≡ next_number h.board
    next =
        let e : next_number h.board ≡ suc (length h.board.lines) = omega arith in
        ap (number_by names) e ∙ ap suc ((alike.board).next (length h.board.lines) (omega arith)) ∙ sym e

    claimed_tells : (rank : ℕ) (now : Bool) (n : ℕ) → may_receive h.claims rank n ≡ true
        → Tells (claimed_now (with_claims h (without_claim h.claims rank n)) now n).0
    claimed_tells rank true n may = no_message (collect h.board n).0
    claimed_tells rank false n may = posted n false (waits rank n may)

    pub tells : (rank : ℕ) (q : Request) → Tells (outcome h rank q).0
    tells rank (Send sync comm dest tag bytes) =
        let s = sending rank sync comm dest tag bytes in
        either (nat_lt (held_count h.board.bodies) 65536)
        (reply.Posted (next_number h.board) (is_done h.board s), with_board h (send_posted h.board s bytes))
        (reply.Code Full, h) (λ b. posted (next_number h.board) (is_done h.board s) next) (λ e. absurd (cc))
    tells rank (Recv true comm source tag) =
        message (reply.Posted (next_number h.board) false)
        (collect (receive_posted h.board (selecting rank comm source tag)) (next_number h.board)).0
        (posted (next_number h.board) false next)
    tells rank (Recv false comm source tag) = posted (next_number h.board) false next
    tells rank (Collect n) =
        either (may_collect h rank n) (got_or h reply.NotYet (collect h.board n)) (reply.Code BadRequest, h)
        (λ b. no_message (collect h.board n).0) (λ e. absurd (cc))
    tells rank (Finished n) =
        either (is_send_of rank (line_of h.board n)) (cond (is_complete h n) reply.Done reply.NotYet, h)
        (reply.Code BadRequest, h) (λ b. done_tells (is_complete h n)) (λ e. absurd (cc))
    tells rank (Probe comm source tag) = seen_tells (probed h.board (post.Receive (selecting rank comm source tag)))
    tells rank (Claim comm source tag) =
        found_tells h (selecting rank comm source tag) (probed h.board (post.Claim (selecting rank comm source tag)))
    tells rank (Claimed now n) =
        either (may_receive h.claims rank n) (claimed_now (with_claims h (without_claim h.claims rank n)) now n)
        (reply.Code BadMessage, h) (claimed_tells rank now n) (λ e. absurd (cc))
    tells rank (All ns) =
        either (are_distinct ns && list_all (λ n. is_known h rank n) ns)
        (cond (list_all (λ n. is_ready h rank n) ns) (all_collected h (all_got rank h.board ns)) (reply.NotYet, h))
        (reply.Code BadRequest, h)
        (λ b. either (list_all (λ n. is_ready h rank n) ns) (all_collected h (all_got rank h.board ns)) (reply.NotYet, h)
        (λ c e. absurd (cc)) (λ e. absurd (cc)))
        (λ e. absurd (cc))
    tells rank (Init sends comm peer tag parts size) =
        told_by_init h (setup_of rank sends comm peer tag parts size)
        (peer_of h.sides (setup_of rank sends comm peer tag parts size))
    tells rank (Cut link) =
        either (is_receiver h.links rank link) (cut_of (sender_over h.sides link), h) (reply.Code BadRequest, h)
        (λ b. cut_tells (sender_over h.sides link)) (λ e. absurd (cc))

pub posted_named : (names : Renaming) (links : List Link) (calls : List Call) (k : HubView)
    → AlikeHubs names (hub_after links calls) k → (rank : ℕ) (q : Request) (number : ℕ) (done : Bool)
    → reply_of links calls rank q ≡ reply.Posted number done → number_by names number ≡ number
posted_named names links calls k alike rank q number done told =
    tells names number done (hub_after links calls) k alike
    (λ r n may. kept names (hub_after links calls) k alike (owned_after links calls) n
    (waits_for_it (hub_after links calls).claims r n may)) rank q told
