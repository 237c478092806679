-- Alike hubs answer alike, request by request.
use Rattle.std.proofs.Common.{◌≡◌, ℕ, suc, ◌+◌, List, [], ◌∷◌, ◌++◌, length, map, Bool, true, false, cond, not, Option, Some, None, refl, sym, ap, ◌∙◌, subst, arith}
use Rattle.std.specs.Prelude.{◌&&◌, ◌||◌, nat_lt}
use Rattle.std.specs.List.{list_all}
use Rattle.std.specs.Option.{is_some, option_map}
use Rattle.std.proofs.lemmas.Bool.{and_parts}
use Rattle.rv_image_types.specs.declared.images.Link.{Link}
use Rattle.mp_types.specs.declared.codes.Code.TheVariants.{BadMessage, BadRequest, Full, NoChannel, Shape}
use Rattle.mp_types.specs.declared.messages.Envelope.{Envelope}
use Rattle.mp_types.specs.declared.messages.Message.{Message}
use Rattle.mp_types.specs.declared.replies.Reply.{Reply}
use Rattle.mp_types.specs.declared.replies.Reply.TheVariants as reply
use Rattle.mp_types.specs.declared.requests.Request.{Request}
use Rattle.mp_types.specs.declared.requests.Request.TheVariants.{Send, Recv, Collect, Finished, Probe, Claim, Claimed, All, Init, Cut}
use Rattle.mp_match.specs.declared.posts.Post.{Post}
use Rattle.mp_match.specs.declared.posts.Post.TheVariants as post
use Rattle.mp_match.specs.declared.posts.Selection.{Selection}
use Rattle.mp_match.specs.declared.posts.Sent.{Sent}
use Rattle.mp_match.specs.Board.{Board, claim_posted, collect, envelope_at, held_count, is_send_of, line_of, probed, receive_posted, send_posted}
use Rattle.mp_match.specs.Pairs.{fits, partner_for}
use Rattle.mp_match.proofs.Places.{found_first}
use Rattle.mp_probe.specs.declared.handles.Waiting.{Waiting}
use Rattle.mp_probe.specs.Claims.{may_receive, next_number, waiting_if, without_claim}
use Rattle.mp_transfers.specs.declared.sides.Setup.{Setup}
use Rattle.mp_transfers.specs.declared.sides.Side.{Side}
use Rattle.mp_transfers.specs.Inits.{is_receiver, lowest_link, peer_of, same_total, sender_over}
use Rattle.mp_hub.specs.Hub.{Call, HubView, all_collected, all_got, are_distinct, claim_found, claimed_now, cut_of, got_or, hub_after, init_first, init_with, is_complete, is_done, is_known, is_ready, may_collect, message_or, outcome, seen, selecting, sending, setup_of, side_added, with_board, with_claims}
use Rattle.mp_hub.proofs.Histories.{hub_more}
use Rattle.mp_hub.proofs.SentKept.{mail}
use Rattle.mp_wait_laws.proofs.Owned.{AreOwned, owned_after, somebody's, waits_for_it}
use Rattle.mp_alike_laws.specs.Renaming.{Renaming, number_by, request_by}
use Rattle.mp_source_laws.specs.Alike.{AlikeBoards, AlikeHubs, Wild}
use Rattle.mp_source_laws.specs.Laws.{AnswersLaw, AsksFrom, AsksOfLive, AsksWithin}
use Rattle.mp_source_laws.proofs.Held.{held_same}
use Rattle.mp_source_laws.proofs.Named.{IsSame, all_known_named, all_known_same, all_ready_named, collects_same, complete_named, distinct_named, envelope_same, kept, may_named, send_named, sent_same, some_by}
use Rattle.mp_source_laws.proofs.Over.{claim_is_live, same_or_over}
use Rattle.mp_source_laws.proofs.Partners.{May, found_named, live}
use Rattle.mp_source_laws.proofs.Posting.{new_same, posted_alike}
use Rattle.mp_source_laws.proofs.Collecting.{SameGot, all_alike, collect_alike}
use Rattle.mp_alike_laws.proofs.Sides.{SameSides, lowest_same, more_same, peer_same}

-- the same reply, and hubs that are alike after it
pub record Same (wild : Wild) (names : Renaming) (x y : Reply × HubView) : Type 0 where
  pub reply : y.0 ≡ x.0
  pub hubs : AlikeHubs wild names x.1 y.1

module _ {wild : Wild} (names : Renaming) where
  either : (b c : Bool) (x y z w : Reply × HubView) → c ≡ b → Same wild names x z → Same wild names y w
      → Same wild names (cond b x y) (cond c z w)
  either true true x y z w e s t = s
  either false false x y z w e s t = t
  either true false x y z w e s t = absurd (cc)
  either false true x y z w e s t = absurd (cc)

  -- the second hub only where the first test passes
  if_so : (b c : Bool) (x y z w : Reply × HubView) → c ≡ b → (b ≡ true → Same wild names x z) → Same wild names y w
      → Same wild names (cond b x y) (cond c z w)
  if_so true true x y z w e s t = s refl
  if_so false false x y z w e s t = t
  if_so true false x y z w e s t = absurd (cc)
  if_so false true x y z w e s t = absurd (cc)

  pub boarded : (h k : HubView) (b c : Board) → AlikeHubs wild names h k → AlikeBoards wild names b c
      → AlikeHubs wild names (with_board h b) (with_board k c)
  boarded h k b c alike boards = record {
    links = alike.links;
    board = boards;
    claims = alike.claims;
    sides = alike.sides;
    reserved = alike.reserved;
    senders = alike.senders;
  }

  claims_too : (h k : HubView) (ws vs : List Waiting) → AlikeHubs wild names h k → vs ≡ ws
      → AlikeHubs wild names (with_claims h ws) (with_claims k vs)
  claims_too h k ws vs alike same = record {
    links = alike.links;
    board = alike.board;
    claims = same;
    sides = alike.sides;
    reserved = alike.reserved;
    senders = alike.senders;
  }

  got_same : (h k : HubView) (r q : Reply) (g f : Option Message × Board) → AlikeHubs wild names h k → q ≡ r
      → SameGot wild names g f → Same wild names (got_or h r g) (got_or k q f)
  got_same h k r q g f alike same got = record {
    reply = ap (λ x. message_or x f.0) same ∙ ap (message_or r) got.got;
    hubs = boarded h k g.1 f.1 alike got.boards;
  }

  module _ (h k : HubView) (alike : AlikeHubs wild names h k) (owned : AreOwned h)
      (even : length h.board.bodies ≡ length h.board.lines) (also : length k.board.bodies ≡ length k.board.lines) where
    board : AlikeBoards wild names h.board k.board
    board = alike.board

    still : (r q : Reply) → q ≡ r → Same wild names (r, h) (q, k)
    still r q e = record { reply = e; hubs = alike }

    next_same : next_number k.board ≡ next_number h.board
    next_same = ap (λ n. n + 1) board.many

    next_named : number_by names (next_number h.board) ≡ next_number h.board
    next_named =
        let e : next_number h.board ≡ suc (length h.board.lines) = omega arith in
        ap (number_by names) e ∙ ap suc (board.next (length h.board.lines) (omega arith)) ∙ sym e

    probed_same : (p : Post) → May wild p → probed k.board p ≡ probed h.board p
    probed_same p may =
        ap (envelope_at k.board) (found_named names h.board k.board board p may) ∙ go (partner_for h.board.lines p) refl
      where
        go : (o : Option ℕ) → partner_for h.board.lines p ≡ o → envelope_at k.board (option_map names.to o) ≡ envelope_at h.board o
        go None e = refl
        go (Some place) e =
            let t = found_first (fits p) h.board.lines place e in
            envelope_same names h.board k.board board place
            (same_or_over names h.board k.board place (board.lines place) (live h.board p place t.0 t.1 t.2))

    sends : (s : Sent) (bytes : List ℕ)
        → Same wild names (reply.Posted (next_number h.board) (is_done h.board s), with_board h (send_posted h.board s bytes))
        (reply.Posted (next_number k.board) (is_done k.board s), with_board k (send_posted k.board s bytes))
    sends s bytes = record {
      reply =
          ap (λ n. reply.Posted n (is_done k.board s)) next_same
          ∙ ap (λ o. reply.Posted (next_number h.board) (not s.sync || is_some o))
          (found_named names h.board k.board board (post.Send s) tt)
          ∙ ap (λ x. reply.Posted (next_number h.board) (not s.sync || x))
          (some_by names (partner_for h.board.lines (post.Send s)));
      hubs = boarded h k _ _ alike (posted_alike names h.board k.board board (post.Send s) tt (Some bytes) even also);
    }

    receives : (a : Selection) → AsksFrom wild a.rank a.comm a.source
        → AlikeBoards wild names (receive_posted h.board a) (receive_posted k.board a)
    receives a may = posted_alike names h.board k.board board (post.Receive a) may None even also

    received_same : (a : Selection) → AsksFrom wild a.rank a.comm a.source
        → IsSame names (receive_posted h.board a) (receive_posted k.board a) (next_number h.board)
    received_same a may =
        let e : next_number h.board ≡ suc (length h.board.lines) = omega arith in
        subst (IsSame names (receive_posted h.board a) (receive_posted k.board a)) (sym e)
        (new_same names h.board k.board board (post.Receive a) may None even also)

    claims_found : (a : Selection) → AsksFrom wild a.rank a.comm a.source → (o q : Option Envelope) → q ≡ o
        → Same wild names (claim_found h a o) (claim_found k a q)
    claims_found a may o q e =
        subst (λ x. Same wild names (claim_found h a o) (claim_found k a x)) (sym e) (go o)
      where
        go : (o : Option Envelope) → Same wild names (claim_found h a o) (claim_found k a o)
        go None = record { reply = refl; hubs = claims_too (with_board h h.board) (with_board k k.board) h.claims k.claims (boarded h k h.board k.board alike board) alike.claims }
        go (Some envelope) = record {
          reply = ap (λ n. reply.Held n envelope) next_same;
          hubs =
              claims_too (with_board h (claim_posted h.board a)) (with_board k (claim_posted k.board a))
              (waiting_if h.claims a.rank (next_number h.board) (Some envelope))
              (waiting_if k.claims a.rank (next_number k.board) (Some envelope))
              (boarded h k _ _ alike (posted_alike names h.board k.board board (post.Claim a) may None even also))
              (ap (λ ws. waiting_if ws a.rank (next_number k.board) (Some envelope)) alike.claims
              ∙ ap (λ n. waiting_if h.claims a.rank n (Some envelope)) next_same);
        }

    claimed : (rank : ℕ) (now : Bool) (n : ℕ) → may_receive h.claims rank n ≡ true
        → Same wild names (claimed_now (with_claims h (without_claim h.claims rank n)) now n)
        (claimed_now (with_claims k (without_claim k.claims rank n)) now n)
    claimed rank now n may = go now
      where
        fewer : AlikeHubs wild names (with_claims h (without_claim h.claims rank n))
            (with_claims k (without_claim k.claims rank n))
        fewer = claims_too h k _ _ alike (ap (λ ws. without_claim ws rank n) alike.claims)

        -- a message that waits is a claim's, which isn't over
        waits_same : IsSame names h.board k.board n
        waits_same =
            let s = somebody's h.claims n (waits_for_it h.claims rank n may) in
            let c = owned s.0 n s.1 in
            let number : suc c.place ≡ n = (let e = c.numbered in omega (arith, e)) in
            subst (IsSame names h.board k.board) number
            (same_or_over names h.board k.board c.place (board.lines c.place)
            (claim_is_live h.board c.place c.line c.what c.here c.claims))

        go : (now : Bool)
            → Same wild names (claimed_now (with_claims h (without_claim h.claims rank n)) now n)
            (claimed_now (with_claims k (without_claim k.claims rank n)) now n)
        go true =
            got_same (with_claims h (without_claim h.claims rank n)) (with_claims k (without_claim k.claims rank n))
            reply.NotYet reply.NotYet (collect h.board n) (collect k.board n) fewer refl
            (subst (λ m. SameGot wild names (collect h.board n) (collect k.board m))
            (kept names h k alike owned n (waits_for_it h.claims rank n may))
            (collect_alike names h.board k.board board n waits_same))
        go false = record { reply = refl; hubs = fewer }

    same_sides : SameSides h.sides k.sides
    same_sides = record { sides = alike.sides; reserved = alike.reserved; senders = alike.senders }

    side_more : (s : Setup) (link : ℕ) → Same wild names (side_added h s link) (side_added k s link)
    side_more s link =
        let more = more_same h.sides k.sides (record { setup = s; link = link }) same_sides in
        record {
          reply = refl;
          hubs = record {
            links = alike.links;
            board = alike.board;
            claims = alike.claims;
            sides = more.sides;
            reserved = more.reserved;
            senders = more.senders;
          };
        }

    first : (s : Setup) (o q : Option ℕ) → q ≡ o → Same wild names (init_first h s o) (init_first k s q)
    first s o q e = subst (λ x. Same wild names (init_first h s o) (init_first k s x)) (sym e) (go o)
      where
        go : (o : Option ℕ) → Same wild names (init_first h s o) (init_first k s o)
        go None = still (reply.Code NoChannel) (reply.Code NoChannel) refl
        go (Some link) = side_more s link

    inits : (s : Setup) (o q : Option Side) → q ≡ o → Same wild names (init_with h s o) (init_with k s q)
    inits s o q e = subst (λ x. Same wild names (init_with h s o) (init_with k s x)) (sym e) (go o)
      where
        go : (o : Option Side) → Same wild names (init_with h s o) (init_with k s o)
        go None =
            first s (lowest_link h.links h.sides s) (lowest_link k.links k.sides s)
            (ap (λ ls. lowest_link ls k.sides s) alike.links ∙ lowest_same h.links h.sides k.sides same_sides s)
        go (Some peer) =
            either (same_total s peer.setup) (same_total s peer.setup) (side_added h s peer.link)
            (reply.Code Shape, h) (side_added k s peer.link) (reply.Code Shape, k) refl (side_more s peer.link)
            (still (reply.Code Shape) (reply.Code Shape) refl)

    pub answers : (rank : ℕ) (q : Request) → AsksWithin wild rank q → AsksOfLive h.board q
        → Same wild names (outcome h rank q) (outcome k rank (request_by names q))
    answers rank (Send sync comm dest tag bytes) may of_live =
        let s = sending rank sync comm dest tag bytes in
        either (nat_lt (held_count h.board.bodies) 65536) (nat_lt (held_count k.board.bodies) 65536)
        (reply.Posted (next_number h.board) (is_done h.board s), with_board h (send_posted h.board s bytes))
        (reply.Code Full, h)
        (reply.Posted (next_number k.board) (is_done k.board s), with_board k (send_posted k.board s bytes))
        (reply.Code Full, k)
        (ap (λ n. nat_lt n 65536) (held_same names h.board k.board board)) (sends s bytes) (still (reply.Code Full) (reply.Code Full) refl)
    answers rank (Recv true comm source tag) may of_live =
        let a = selecting rank comm source tag in
        got_same h k (reply.Posted (next_number h.board) false) (reply.Posted (next_number k.board) false)
        (collect (receive_posted h.board a) (next_number h.board))
        (collect (receive_posted k.board a) (next_number k.board)) alike
        (ap (λ n. reply.Posted n false) next_same)
        (subst (λ m. SameGot wild names (collect (receive_posted h.board a) (next_number h.board))
        (collect (receive_posted k.board a) m)) (next_named ∙ sym next_same)
        (collect_alike names (receive_posted h.board a) (receive_posted k.board a) (receives a may)
        (next_number h.board) (received_same a may)))
    answers rank (Recv false comm source tag) may of_live = record {
      reply = ap (λ n. reply.Posted n false) next_same;
      hubs = boarded h k _ _ alike (receives (selecting rank comm source tag) may);
    }
    answers rank (Collect n) may of_live =
        if_so (may_collect h rank n) (may_collect k rank (number_by names n))
        (got_or h reply.NotYet (collect h.board n)) (reply.Code BadRequest, h)
        (got_or k reply.NotYet (collect k.board (number_by names n))) (reply.Code BadRequest, k)
        (may_named names h k alike owned rank n)
        (λ collects.
        got_same h k reply.NotYet reply.NotYet (collect h.board n) (collect k.board (number_by names n)) alike refl
        (collect_alike names h.board k.board board n (collects_same names h k alike owned rank n collects)))
        (still (reply.Code BadRequest) (reply.Code BadRequest) refl)
    answers rank (Finished n) may of_live =
        if_so (is_send_of rank (line_of h.board n)) (is_send_of rank (line_of k.board (number_by names n)))
        (cond (is_complete h n) reply.Done reply.NotYet, h) (reply.Code BadRequest, h)
        (cond (is_complete k (number_by names n)) reply.Done reply.NotYet, k) (reply.Code BadRequest, k)
        (send_named names h.board k.board board rank n of_live)
        (λ sends. still _ _ (ap (λ x. cond x reply.Done reply.NotYet)
        (complete_named names h k alike owned n (sent_same names h.board k.board board rank n of_live sends))))
        (still (reply.Code BadRequest) (reply.Code BadRequest) refl)
    answers rank (Probe comm source tag) may of_live =
        still _ _ (ap seen (probed_same (post.Receive (selecting rank comm source tag)) may))
    answers rank (Claim comm source tag) may of_live =
        claims_found (selecting rank comm source tag) may (probed h.board (post.Claim (selecting rank comm source tag)))
        (probed k.board (post.Claim (selecting rank comm source tag)))
        (probed_same (post.Claim (selecting rank comm source tag)) may)
    answers rank (Claimed now n) may of_live =
        if_so (may_receive h.claims rank n) (may_receive k.claims rank n)
        (claimed_now (with_claims h (without_claim h.claims rank n)) now n) (reply.Code BadMessage, h)
        (claimed_now (with_claims k (without_claim k.claims rank n)) now n) (reply.Code BadMessage, k)
        (ap (λ ws. may_receive ws rank n) alike.claims) (claimed rank now n)
        (still (reply.Code BadMessage) (reply.Code BadMessage) refl)
    answers rank (All ns) may of_live =
        let ms = map (number_by names) ns in
        if_so (are_distinct ns && list_all (λ n. is_known h rank n) ns)
        (are_distinct ms && list_all (λ n. is_known k rank n) ms)
        (cond (list_all (λ n. is_ready h rank n) ns) (all_collected h (all_got rank h.board ns)) (reply.NotYet, h))
        (reply.Code BadRequest, h)
        (cond (list_all (λ n. is_ready k rank n) ms) (all_collected k (all_got rank k.board ms)) (reply.NotYet, k))
        (reply.Code BadRequest, k)
        (ap (λ x. x && list_all (λ n. is_known k rank n) ms) (distinct_named names h k alike owned ns)
        ∙ ap (λ x. are_distinct ns && x) (all_known_named names h k alike owned rank ns of_live))
        (λ known.
        let each = and_parts (are_distinct ns) (list_all (λ n. is_known h rank n) ns) known in
        let got = all_alike names rank ns h.board k.board board (all_known_same names h k alike owned rank ns of_live each.1) in
        either (list_all (λ n. is_ready h rank n) ns) (list_all (λ n. is_ready k rank n) ms)
        (all_collected h (all_got rank h.board ns)) (reply.NotYet, h)
        (all_collected k (all_got rank k.board ms)) (reply.NotYet, k)
        (all_ready_named names h k alike owned rank ns of_live)
        (record {
          reply = ap (λ g. reply.AllGot g) got.got;
          hubs = boarded h k _ _ alike got.boards;
        })
        (still reply.NotYet reply.NotYet refl))
        (still (reply.Code BadRequest) (reply.Code BadRequest) refl)
    answers rank (Init sends comm peer tag parts size) may of_live =
        let s = setup_of rank sends comm peer tag parts size in
        inits s (peer_of h.sides s) (peer_of k.sides s) (peer_same h.sides k.sides same_sides s)
    answers rank (Cut link) may of_live =
        either (is_receiver h.links rank link) (is_receiver k.links rank link)
        (cut_of (sender_over h.sides link), h) (reply.Code BadRequest, h)
        (cut_of (sender_over k.sides link), k) (reply.Code BadRequest, k)
        (ap (λ ls. is_receiver ls rank link) alike.links)
        (still _ _ (ap cut_of (alike.senders link))) (still (reply.Code BadRequest) (reply.Code BadRequest) refl)

same_after : {wild : Wild} → (names : Renaming) (links others : List Link) (calls theirs : List Call) (rank : ℕ) (q : Request)
    → AsksWithin wild rank q → AsksOfLive (hub_after links calls).board q
    → AlikeHubs wild names (hub_after links calls) (hub_after others theirs)
    → Same wild names (outcome (hub_after links calls) rank q) (outcome (hub_after others theirs) rank (request_by names q))
same_after names links others calls theirs rank q may of_live alike =
    answers names (hub_after links calls) (hub_after others theirs) alike (owned_after links calls)
    (mail links calls).even (mail others theirs).even rank q may of_live

pub answers_law : AnswersLaw
answers_law = record {
  reply = λ wild names links others calls theirs rank q may of_live alike.
      (same_after names links others calls theirs rank q may of_live alike).reply;
  stays = λ wild names links others calls theirs rank q may of_live alike.
      let same = same_after names links others calls theirs rank q may of_live alike in
      subst (λ h. AlikeHubs wild names h (hub_after others (theirs ++ (rank, request_by names q) ∷ [])))
      (sym (hub_more links calls (rank, q)))
      (subst (λ k. AlikeHubs wild names (outcome (hub_after links calls) rank q).1 k)
      (sym (hub_more others theirs (rank, request_by names q))) same.hubs);
}
