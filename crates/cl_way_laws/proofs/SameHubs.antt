-- Hubs that are the same but for how many posts were compared answer the same, and are alike.
use Rattle.std.proofs.Common.{◌≡◌, ◌∙◌, ℕ, refl, sym, ap, subst, Bool, true, false, List, [], ◌∷◌, Option, Some, None}
use Rattle.std.specs.Prelude.{cond, nat_lt, ◌&&◌}
use Rattle.std.specs.List.{list_all, slice_get}
use Rattle.std.specs.Option.{option_map}
use Rattle.mp_types.specs.declared.codes.Code.TheVariants as code
use Rattle.mp_types.specs.declared.messages.Envelope.{Envelope}
use Rattle.mp_types.specs.declared.messages.Message.{Message}
use Rattle.mp_types.specs.declared.replies.Reply.{Reply}
use Rattle.mp_types.specs.declared.replies.Reply.TheVariants as reply
use Rattle.mp_types.specs.declared.requests.Request.{Request}
use Rattle.mp_types.specs.declared.requests.Request.TheVariants as request
use Rattle.mp_match.specs.declared.posts.Line.{Line}
use Rattle.mp_match.specs.declared.posts.Post.TheVariants as post
use Rattle.mp_match.specs.declared.posts.Selection.{Selection}
use Rattle.mp_match.specs.Board.{Board, collect, collect_from, held_count, is_send_of, line_of, partner_of, probed, receive_posted, send_posted}
use Rattle.mp_probe.specs.declared.handles.Waiting.{Waiting}
use Rattle.mp_probe.specs.Claims.{may_receive, next_number, without_claim}
use Rattle.mp_transfers.specs.declared.sides.Setup.{Setup}
use Rattle.mp_transfers.specs.declared.sides.Side.{Side}
use Rattle.mp_transfers.specs.Inits.{is_receiver, lowest_link, peer_of, same_total, sender_over}
use Rattle.mp_hub.specs.Hub.{HubView, all_collected, all_got, are_distinct, claim_found, claimed_now, cut_of, got_or, init_first, init_with, is_complete, is_done, is_known, is_ready, may_collect, message_or, one_got, outcome, selecting, sending, setup_of, side_added, with_board, with_claims}
use Rattle.mp_alike_laws.specs.Renaming.{line_by, no_renaming}
use Rattle.mp_source_laws.specs.Alike.{AlikeHubs, Wild, is_same}
use Rattle.mp_way_laws.specs.Answers.{IsSameHub}

-- ---- sameness

pub same_hub_itself : (h : HubView) → IsSameHub h h
same_hub_itself h = record { links = refl; lines = refl; bodies = refl; claims = refl; sides = refl }

pub same_hub_back : (h k : HubView) → IsSameHub h k → IsSameHub k h
same_hub_back h k same = record {
  links = sym same.links;
  lines = sym same.lines;
  bodies = sym same.bodies;
  claims = sym same.claims;
  sides = sym same.sides;
}

pub same_hub_on : (h k l : HubView) → IsSameHub h k → IsSameHub k l → IsSameHub h l
same_hub_on h k l one two = record {
  links = one.links ∙ two.links;
  lines = one.lines ∙ two.lines;
  bodies = one.bodies ∙ two.bodies;
  claims = one.claims ∙ two.claims;
  sides = one.sides ∙ two.sides;
}

pub same_hub_is : (h k : HubView) → k ≡ h → IsSameHub h k
same_hub_is h k e = subst (IsSameHub h) (sym e) (same_hub_itself h)

-- ---- another number of posts that were compared

abbrev counted : Board → ℕ → Board
counted b n = record { lines = b.lines; bodies = b.bodies; compared = n }

abbrev counting : HubView → ℕ → HubView
counting h n = record { links = h.links; board = counted h.board n; claims = h.claims; sides = h.sides }

counting_is : (h k : HubView) → IsSameHub h k → counting h k.board.compared ≡ k
counting_is h k same = λ i. record {
  links = same.links i;
  board = record { lines = same.lines i; bodies = same.bodies i; compared = k.board.compared };
  claims = same.claims i;
  sides = same.sides i;
}

-- ---- one call

-- the same reply, and the same hub
abbrev IsSameTold : Reply × HubView → Reply × HubView → Type 0
IsSameTold x y = (y.0 ≡ x.0) × IsSameHub x.1 y.1

either : (b : Bool) (x y v w : Reply × HubView) → IsSameTold x v → IsSameTold y w → IsSameTold (cond b x y) (cond b v w)
either true x y v w one two = one
either false x y v w one two = two

-- messages that are collected
abbrev IsSameGot : {A : Type 0} → A × Board → A × Board → Type 0
IsSameGot x y = (y.0 ≡ x.0) × (y.1.lines ≡ x.1.lines) × (y.1.bodies ≡ x.1.bodies)

collects : (b : Board) (n number : ℕ) → IsSameGot (collect b number) (collect (counted b n) number)
collects b n number = go (partner_of b number)
  where
    go : (o : Option ℕ) → IsSameGot (collect_from b o) (collect_from (counted b n) o)
    go None = (refl, refl, refl)
    go (Some place) = (refl, refl, refl)

module _ (h : HubView) (n : ℕ) where
  abbrev k : HubView
  k = counting h n

  got : (other : Reply) (number : ℕ)
      → IsSameTold (got_or h other (collect h.board number)) (got_or k other (collect k.board number))
  got other number =
      let same = collects h.board n number in (
        ap (message_or other) same.0,
        record { links = refl; lines = sym same.1; bodies = sym same.2; claims = refl; sides = refl },
      )

  -- the same of a board with one post more
  received : (a : Selection)
      → IsSameTold (got_or h (reply.Posted (next_number h.board) false)
      (collect (receive_posted h.board a) (next_number h.board)))
      (got_or k (reply.Posted (next_number h.board) false) (collect (receive_posted k.board a) (next_number h.board)))
  received a =
      let same = collects (receive_posted h.board a) n (next_number h.board) in
      let also = collects (receive_posted k.board a) n (next_number h.board) in (
        ap (message_or (reply.Posted (next_number h.board) false)) (sym also.0 ∙ same.0),
        record { links = refl; lines = sym same.1 ∙ also.1; bodies = sym same.2 ∙ also.2; claims = refl; sides = refl },
      )

  one : (rank : ℕ) (b c : Board) (number : ℕ) → c.lines ≡ b.lines → c.bodies ≡ b.bodies
      → IsSameGot (one_got rank b number) (one_got rank c number)
  one rank b c number lines bodies =
      subst (λ (d : Board). IsSameGot (one_got rank b number) (one_got rank d number))
      (λ i. record { lines = sym lines i; bodies = sym bodies i; compared = c.compared })
      (go (is_send_of rank (line_of b number)))
    where
      same : IsSameGot (collect b number) (collect (counted b c.compared) number)
      same = collects b c.compared number

      go : (s : Bool)
          → (let x : Option Message × Board = cond s (None, b) (collect b number) in
          let y : Option Message
          × Board = cond s (None, counted b c.compared) (collect (counted b c.compared) number) in IsSameGot x y)
      go true = (refl, refl, refl)
      go false = same

  all : (rank : ℕ) (ns : List ℕ) (b c : Board) → c.lines ≡ b.lines → c.bodies ≡ b.bodies
      → IsSameGot (all_got rank b ns) (all_got rank c ns)
  all rank [] b c lines bodies = (refl, lines, bodies)
  all rank (m ∷ ns) b c lines bodies =
      let first = one rank b c m lines bodies in
      let rest = all rank ns (one_got rank b m).1 (one_got rank c m).1 first.1 first.2 in
      ((λ i. first.0 i ∷ rest.0 i), rest.1, rest.2)

  init_one : (s : Setup) (o : Option ℕ) → IsSameTold (init_first h s o) (init_first k s o)
  init_one s None = (refl, record { links = refl; lines = refl; bodies = refl; claims = refl; sides = refl })
  init_one s (Some link) = (refl, record { links = refl; lines = refl; bodies = refl; claims = refl; sides = refl })

  same_still : IsSameHub h k
  same_still = record { links = refl; lines = refl; bodies = refl; claims = refl; sides = refl }

  init_two : (s : Setup) (o : Option Side) → IsSameTold (init_with h s o) (init_with k s o)
  init_two s None = init_one s (lowest_link h.links h.sides s)
  init_two s (Some peer) =
      either (same_total s peer.setup) (side_added h s peer.link) (reply.Code code.Shape, h) (side_added k s peer.link)
      (reply.Code code.Shape, k)
      (refl, record { links = refl; lines = refl; bodies = refl; claims = refl; sides = refl }) (refl, same_still)

  claims : (a : Selection) (o : Option Envelope) → IsSameTold (claim_found h a o) (claim_found k a o)
  claims a None = (refl, record { links = refl; lines = refl; bodies = refl; claims = refl; sides = refl })
  claims a (Some envelope) = (refl, record { links = refl; lines = refl; bodies = refl; claims = refl; sides = refl })

  counted_call : (rank : ℕ) (q : Request) → IsSameTold (outcome h rank q) (outcome k rank q)
  counted_call rank (request.Send sync comm dest tag bytes) =
      let s = sending rank sync comm dest tag bytes in
      either (nat_lt (held_count h.board.bodies) 65536)
      (reply.Posted (next_number h.board) (is_done h.board s), with_board h (send_posted h.board s bytes))
      (reply.Code code.Full, h)
      (reply.Posted (next_number h.board) (is_done h.board s), with_board k (send_posted k.board s bytes))
      (reply.Code code.Full, k)
      (refl, record { links = refl; lines = refl; bodies = refl; claims = refl; sides = refl }) (refl, same_still)
  counted_call rank (request.Recv true comm source tag) = received (selecting rank comm source tag)
  counted_call rank (request.Recv false comm source tag) =
      (refl, record { links = refl; lines = refl; bodies = refl; claims = refl; sides = refl })
  counted_call rank (request.Collect number) =
      either (may_collect h rank number) (got_or h reply.NotYet (collect h.board number))
      (reply.Code code.BadRequest, h)
      (got_or k reply.NotYet (collect k.board number)) (reply.Code code.BadRequest, k)
      (got reply.NotYet number) (refl, same_still)
  counted_call rank (request.Finished number) =
      either (is_send_of rank (line_of h.board number)) (cond (is_complete h number) reply.Done reply.NotYet, h)
      (reply.Code code.BadRequest, h) (cond (is_complete h number) reply.Done reply.NotYet, k)
      (reply.Code code.BadRequest, k)
      (refl, same_still) (refl, same_still)
  counted_call rank (request.Probe comm source tag) = (refl, same_still)
  counted_call rank (request.Claim comm source tag) =
      claims (selecting rank comm source tag) (probed h.board (post.Claim (selecting rank comm source tag)))
  counted_call rank (request.Claimed now message) =
      either (may_receive h.claims rank message)
      (claimed_now (with_claims h (without_claim h.claims rank message)) now message) (reply.Code code.BadMessage, h)
      (claimed_now (with_claims k (without_claim h.claims rank message)) now message) (reply.Code code.BadMessage, k)
      (go now) (refl, same_still)
    where
      ws : List Waiting
      ws = without_claim h.claims rank message

      go : (now : Bool) → IsSameTold (claimed_now (with_claims h ws) now message)
          (claimed_now (with_claims k ws) now message)
      go true =
          let same = collects h.board n message in (
            ap (message_or reply.NotYet) same.0,
            record { links = refl; lines = sym same.1; bodies = sym same.2; claims = refl; sides = refl },
          )
      go false = (refl, record { links = refl; lines = refl; bodies = refl; claims = refl; sides = refl })
  counted_call rank (request.All ns) =
      let same = all rank ns h.board k.board refl refl in
      either (are_distinct ns && list_all (λ m. is_known h rank m) ns)
      (cond (list_all (λ m. is_ready h rank m) ns) (all_collected h (all_got rank h.board ns)) (reply.NotYet, h))
      (reply.Code code.BadRequest, h)
      (cond (list_all (λ m. is_ready h rank m) ns) (all_collected k (all_got rank k.board ns)) (reply.NotYet, k))
      (reply.Code code.BadRequest, k)
      (either (list_all (λ m. is_ready h rank m) ns) (all_collected h (all_got rank h.board ns)) (reply.NotYet, h)
      (all_collected k (all_got rank k.board ns)) (reply.NotYet, k) (
        ap (λ gots. reply.AllGot gots) same.0,
        record { links = refl; lines = sym same.1; bodies = sym same.2; claims = refl; sides = refl },
      )
      (refl, same_still))
      (refl, same_still)
  counted_call rank (request.Init sends comm peer tag parts size) =
      init_two (setup_of rank sends comm peer tag parts size)
      (peer_of h.sides (setup_of rank sends comm peer tag parts size))
  counted_call rank (request.Cut link) =
      either (is_receiver h.links rank link) (cut_of (sender_over h.sides link), h) (reply.Code code.BadRequest, h)
      (cut_of (sender_over h.sides link), k) (reply.Code code.BadRequest, k) (refl, same_still) (refl, same_still)

-- the same hubs answer a call the same, and are the same behind it
pub same_call : (h k : HubView) (rank : ℕ) (q : Request) → IsSameHub h k
    → ((outcome k rank q).0 ≡ (outcome h rank q).0) × IsSameHub (outcome h rank q).1 (outcome k rank q).1
same_call h k rank q same =
    subst (λ (l : HubView). ((outcome l rank q).0 ≡ (outcome h rank q).0)
    × IsSameHub (outcome h rank q).1 (outcome l rank q).1)
    (counting_is h k same) (counted_call h k.board.compared rank q)

-- ---- likeness

pub same_hub_alike : (wild : Wild) (h k : HubView) → IsSameHub h k → AlikeHubs wild no_renaming h k
same_hub_alike wild h k same =
    subst (AlikeHubs wild no_renaming h) (counting_is h k same)
    (record {
      links = refl;
      board = record {
        many = refl;
        next = λ place past. refl;
        lines = λ place. is_same (same_line (slice_get h.board.lines place));
        bodies = λ place. refl;
        claims = λ place line what here is. refl;
        ranks = λ i j m n below here there same live alive. below;
        sends = λ i j s t below here there dest comm any. below;
      };
      claims = refl;
      sides = λ s. refl;
      reserved = λ link. refl;
      senders = λ link. refl;
    })
  where
    same_partner : (o : Option ℕ) → o ≡ option_map (no_renaming.to) o
    same_partner None = refl
    same_partner (Some p) = refl

    same_line : (o : Option Line) → o ≡ option_map (line_by no_renaming) o
    same_line None = refl
    same_line (Some line) =
        ap (λ (p : Option ℕ). (let m : Line = record { post = line.post; partner = p } in Some m))
        (same_partner line.partner)
