-- What one call comes to, so that each law over all calls goes by a few cases and not by the kinds of requests:
-- nothing is posted, a send is posted, or a receive or a claim, or one post is collected, or several.
use Rattle.std.proofs.Common.{◌≡◌, ℕ, ◌⊎◌, inl, inr, List, Bool, true, false, cond, Option, Some, None, refl}
use Rattle.std.specs.Prelude.{nat_lt, ◌&&◌}
use Rattle.std.specs.List.{list_all}
use Rattle.std.proofs.lemmas.Bool.{ltb-false}
use Rattle.mp_types.specs.declared.messages.Envelope.{Envelope}
use Rattle.mp_types.specs.declared.codes.Code.TheVariants.{BadRequest, BadMessage, Full, Shape}
use Rattle.mp_types.specs.declared.replies.Reply.{Reply}
use Rattle.mp_types.specs.declared.replies.Reply.TheVariants as reply
use Rattle.mp_types.specs.declared.requests.Request.{Request}
use Rattle.mp_types.specs.declared.requests.Request.TheVariants.{Send, Recv, Collect, Finished, Probe, Claim, Claimed, All, Init, Cut}
use Rattle.mp_match.specs.declared.posts.Selection.{Selection}
use Rattle.mp_match.specs.declared.posts.Post.{Post}
use Rattle.mp_match.specs.declared.posts.Post.TheVariants as post
use Rattle.mp_match.specs.Board.{Board, collect, board_with, receive_posted, send_posted, held_count, probed, is_send_of, line_of, envelope_in}
use Rattle.mp_probe.specs.Claims.{next_number, may_receive, without_claim}
use Rattle.mp_transfers.specs.declared.sides.Setup.{Setup}
use Rattle.mp_transfers.specs.declared.sides.Side.{Side}
use Rattle.mp_transfers.specs.Inits.{peer_of, lowest_link, same_total, sender_over, is_receiver}
use Rattle.mp_hub.specs.Hub.{HubView, outcome, message_or, got_or, claim_found, claimed_now, is_complete, may_collect, init_with, init_first, cut_of, setup_of, side_added, all_got, all_collected, are_distinct, is_known, is_ready, sending, selecting, with_board, with_claims, is_done, seen}
use Rattle.mp_hub.specs.Laws.{collecting, most_messages}
use Rattle.mp_hub.specs.Made.{IsFullFor}

-- whether a reply is neither a message nor FULL
abbrev pub is_plain : Reply → Bool
is_plain (reply.Code Full) = false
is_plain (reply.Got m) = false
is_plain (reply.AllGot gots) = false
is_plain _ = true

-- the envelope of a post that has no partner yet
abbrev pub post_envelope : Post → Option Envelope
post_envelope p = envelope_in (Some (record { post = p; partner = None }))

-- the board itself, or with one receive posted
abbrev pub IsReady : Board → Board → Type 0
IsReady b c = (c ≡ b) ⊎ ((a : Selection) × (c ≡ receive_posted b a))

-- what a rank's request comes to: its reply, and the board after it
pub data Comes (h : HubView) (rank : ℕ) (q : Request) (r : Reply) (b : Board) : Type 0 where
  is_nothing : is_plain r ≡ true → b ≡ h.board → Comes h rank q r b
  is_full : r ≡ reply.Code Full → IsFullFor h q → b ≡ h.board → Comes h rank q r b
  is_sent : (sync : Bool) (comm dest tag : ℕ) (bytes : List ℕ) (done : Bool) → q ≡ Send sync comm dest tag bytes
      → r ≡ reply.Posted (next_number h.board) done
      → b ≡ send_posted h.board (sending rank sync comm dest tag bytes) bytes → Comes h rank q r b
  is_posted : (p : Post) → post_envelope p ≡ None → is_plain r ≡ true → b ≡ board_with h.board p None → Comes h rank q r b
  is_got : (c : Board) (number : ℕ) (other : Reply) → IsReady h.board c
      → collecting h q ≡ Some number → most_messages q ≡ 1
      → is_plain other ≡ true → r ≡ message_or other (collect c number).0 → b ≡ (collect c number).1
      → Comes h rank q r b
  is_gathered : (numbers : List ℕ) → q ≡ All numbers → r ≡ reply.AllGot (all_got rank h.board numbers).0
      → b ≡ (all_got rank h.board numbers).1 → Comes h rank q r b

abbrev pub ComesTo : HubView → ℕ → Request → Reply × HubView → Type 0
ComesTo h rank q o = Comes h rank q o.0 (o.1).board

either : (h : HubView) (rank : ℕ) (q : Request) (c : Bool) (x y : Reply × HubView) → ComesTo h rank q x
    → ComesTo h rank q y
    → ComesTo h rank q (cond c x y)
either h rank q true x y p n = p
either h rank q false x y p n = n

pub comes : (h : HubView) (rank : ℕ) (q : Request) → ComesTo h rank q (outcome h rank q)
comes h rank (Send sync comm dest tag bytes) = go (nat_lt (held_count h.board.bodies) 65536) refl
  where
    go : (room : Bool) → nat_lt (held_count h.board.bodies) 65536 ≡ room
        → ComesTo h rank (Send sync comm dest tag bytes)
        (cond room (
          reply.Posted (next_number h.board) (is_done h.board (sending rank sync comm dest tag bytes)),
          with_board h (send_posted h.board (sending rank sync comm dest tag bytes) bytes),
        )
        (reply.Code Full, h))
    go true e =
        is_sent sync comm dest tag bytes (is_done h.board (sending rank sync comm dest tag bytes)) refl refl refl
    go false e = is_full refl (ltb-false (held_count h.board.bodies) 65536 e) refl
comes h rank (Recv true comm source tag) =
    let a = selecting rank comm source tag in
    is_got (receive_posted h.board a) (next_number h.board) (reply.Posted (next_number h.board) false)
    (inr (a, refl)) refl refl refl refl refl
comes h rank (Recv false comm source tag) = is_posted (post.Receive (selecting rank comm source tag)) refl refl refl
comes h rank (Collect n) =
    either h rank (Collect n) (may_collect h rank n) (got_or h reply.NotYet (collect h.board n))
    (reply.Code BadRequest, h)
    (is_got h.board n reply.NotYet (inl refl) refl refl refl refl refl) (is_nothing refl refl)
comes h rank (Finished n) = go (is_send_of rank (line_of h.board n)) (is_complete h n)
  where
    go : (c d : Bool)
        → ComesTo h rank (Finished n) (cond c (cond d reply.Done reply.NotYet, h) (reply.Code BadRequest, h))
    go true true = is_nothing refl refl
    go true false = is_nothing refl refl
    go false d = is_nothing refl refl
comes h rank (Probe comm source tag) = go (probed h.board (post.Receive (selecting rank comm source tag)))
  where
    go : (o : Option Envelope) → ComesTo h rank (Probe comm source tag) (seen o, h)
    go None = is_nothing refl refl
    go (Some e) = is_nothing refl refl
comes h rank (Claim comm source tag) = go (probed h.board (post.Claim (selecting rank comm source tag)))
  where
    go : (o : Option Envelope)
        → ComesTo h rank (Claim comm source tag) (claim_found h (selecting rank comm source tag) o)
    go None = is_nothing refl refl
    go (Some e) = is_posted (post.Claim (selecting rank comm source tag)) refl refl refl
comes h rank (Claimed now n) =
    either h rank (Claimed now n) (may_receive h.claims rank n)
    (claimed_now (with_claims h (without_claim h.claims rank n)) now n) (reply.Code BadMessage, h)
    (go now) (is_nothing refl refl)
  where
    go : (now : Bool) → ComesTo h rank (Claimed now n) (claimed_now (with_claims h (without_claim h.claims rank n)) now n)
    go true = is_got h.board n reply.NotYet (inl refl) refl refl refl refl refl
    go false = is_nothing refl refl
comes h rank (All ns) =
    either h rank (All ns) (are_distinct ns && list_all (λ n. is_known h rank n) ns)
    (cond (list_all (λ n. is_ready h rank n) ns) (all_collected h (all_got rank h.board ns)) (reply.NotYet, h))
    (reply.Code BadRequest, h)
    (either h rank (All ns) (list_all (λ n. is_ready h rank n) ns) (all_collected h (all_got rank h.board ns))
    (reply.NotYet, h)
    (is_gathered ns refl refl refl) (is_nothing refl refl))
    (is_nothing refl refl)
comes h rank (Init sends comm peer tag parts size) =
    go (setup_of rank sends comm peer tag parts size) (peer_of h.sides (setup_of rank sends comm peer tag parts size))
  where
    first : (s : Setup) (o : Option ℕ) → ComesTo h rank (Init sends comm peer tag parts size) (init_first h s o)
    first s None = is_nothing refl refl
    first s (Some k) = is_nothing refl refl

    go : (s : Setup) (o : Option Side) → ComesTo h rank (Init sends comm peer tag parts size) (init_with h s o)
    go s None = first s (lowest_link h.links h.sides s)
    go s (Some t) =
        either h rank (Init sends comm peer tag parts size) (same_total s t.setup) (side_added h s t.link)
        (reply.Code Shape, h)
        (is_nothing refl refl) (is_nothing refl refl)
comes h rank (Cut link) = go (is_receiver h.links rank link) (sender_over h.sides link)
  where
    go : (c : Bool) (o : Option Side) → ComesTo h rank (Cut link) (cond c (cut_of o, h) (reply.Code BadRequest, h))
    go true None = is_nothing refl refl
    go true (Some t) = is_nothing refl refl
    go false o = is_nothing refl refl
