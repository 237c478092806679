-- A hub that was asked only what is inside the limits answers so.
use Rattle.std.specs.Prelude.{ℕ, ◌+◌, ◌<◌, ◌≤◌, ◌≡◌, ◌^◌, ◌==◌, ◌&&◌, ◌||◌, not, List, [], ◌∷◌, ◌++◌, length, Option}
use Rattle.std.specs.Prelude.{Some, None, Bool, true, false, cond, filter, find, option_map}
use Rattle.std.specs.List.{AllByRecursion, list_all, enumerate_from}
use Rattle.std.specs.Prelude.{nat_lt}
use Rattle.std.proofs.Common.{refl, subst, sym, ap, ◌∙◌, arith, append-nil, append_assoc, length-append, get_or}
use Rattle.std.proofs.lemmas.Bool.{and_parts, eqb-true}
use Rattle.std.proofs.lemmas.Option.{same_Some, slice_get-get_or}
use Rattle.rv_image_types.specs.declared.images.Link.{Link}
use Rattle.mp_types.specs.declared.codes.Code.TheVariants.{BadRequest, BadMessage, Full, Shape}
use Rattle.mp_types.specs.declared.messages.Envelope.{Envelope}
use Rattle.mp_types.specs.declared.messages.Message.{Message}
use Rattle.mp_types.specs.declared.replies.Reply.{Reply}
use Rattle.mp_types.specs.declared.replies.Reply.TheVariants as reply
use Rattle.mp_types.specs.declared.requests.Request.{Request}
use Rattle.mp_types.specs.declared.requests.Request.TheVariants as request
use Rattle.mp_match.specs.declared.posts.Post.TheVariants as post
use Rattle.mp_match.specs.declared.posts.Selection.{Selection}
use Rattle.mp_match.specs.Board.{Board, collect, held_count, is_send_of, line_of, probed, receive_posted, send_posted}
use Rattle.mp_probe.specs.declared.handles.Waiting.{Waiting}
use Rattle.mp_probe.specs.Claims.{handle_if, is_claim, may_receive, next_number, without_claim}
use Rattle.mp_transfers.specs.declared.sides.Setup.{Setup}
use Rattle.mp_transfers.specs.declared.sides.Side.{Side}
use Rattle.mp_transfers.specs.Inits.{is_for, is_other_side, is_receiver, is_same_side, lowest_link, peer_of, same_total}
use Rattle.mp_transfers.specs.Inits.{sender_over}
use Rattle.mp_hub.specs.Hub.{Call, HubView, all_collected, all_got, are_distinct, claim_found, claimed_now, cut_of}
use Rattle.mp_hub.specs.Hub.{got_or, held, hub_after, init_first, init_with, is_complete, is_done, is_known, is_ready}
use Rattle.mp_hub.specs.Hub.{may_collect, message_or, outcome, reply_of, seen, selecting, sending, setup_of, side_added}
use Rattle.mp_hub.specs.Hub.{hub_at_start, with_board, with_claims}
use Rattle.mp_hub.specs.Laws.{SentAt}
use Rattle.mp_hub.specs.Transfers.{SenderBegan}
use Rattle.mp_hub.proofs.BoardKept.{board_law}
use Rattle.mp_hub.proofs.CallsSoFar.{hub_on-snoc}
use Rattle.mp_hub.proofs.SentKept.{sent_law}
use Rattle.mp_hub.proofs.Transfers.{cut_law}
use Rattle.cl_text.specs.Limits.{FitsCut, FitsEnvelope, FitsGot, FitsMessage, FitsReply}
use Rattle.cl_text_laws.proofs.Lists.{all-append, all-filter, all_at}
use Rattle.cl_text_laws.proofs.Right.{IsRight, IsRightCall}

-- all of the calls
abbrev pub AreRight : List Call → Type 0
AreRight calls = AllByRecursion IsRightCall calls

one_of : (before after : List Call) (c : Call) → AreRight (before ++ c ∷ after) → IsRightCall c
one_of [] after c right = right.0
one_of (b ∷ before) after c right = one_of before after c right.1

made_by : (calls before after : List Call) (c : Call) → calls ≡ before ++ c ∷ after → AreRight calls → IsRightCall c
made_by calls before after c is right = one_of before after c (subst AreRight is right)

-- ---- what was sent, and how a sender cut its transfer

module _ (links : List Link) (calls : List Call) (right : AreRight calls) where
  sent_fits : (place : ℕ) (m : Message) → SentAt links calls place m → FitsMessage m
  sent_fits place m s =
      let call : IsRightCall (s.sender, request.Send s.sync m.envelope.comm s.dest m.envelope.tag m.bytes) =
      made_by calls s.before s.after _ s.made right in
      record {
        envelope = record {
          comm = (call.request).comm;
          source = subst (λ n. n < 8) (sym s.source) call.rank;
          tag = (call.request).tag;
          count = subst (λ n. n ≤ 4096) (sym s.count) (call.request).count;
        };
        whole = sym s.count;
      }

  cut_fits : (link parts size : ℕ) → SenderBegan links calls link parts size → FitsCut parts size
  cut_fits link parts size s =
      (made_by calls s.before s.after (s.sender, request.Init true s.comm s.dest s.tag parts size) s.made right).request

-- ---- numbers of claims and links

-- claims have numbers of posts, and sides have links of the image
pub record Numbered (n : ℕ) (h : HubView) : Type 0 where
  pub links : length h.links ≤ 32
  pub claims : AllByRecursion (λ (w : Waiting). w.message ≤ n) h.claims
  pub sides : AllByRecursion (λ (t : Side). t.link < 32) h.sides

claims_later : (n : ℕ) (ws : List Waiting) → AllByRecursion (λ (w : Waiting). w.message ≤ n) ws
    → AllByRecursion (λ (w : Waiting). w.message ≤ n + 1) ws
claims_later n [] all = tt
claims_later n (w ∷ ws) all = (let low = all.0 in omega (arith, low), claims_later n ws all.1)

-- the number of an element that is found
found_low : {X : Type 0} (p : ℕ × X → Bool) (n : ℕ) (xs : List X) (l : ℕ × X) → find p (enumerate_from n xs) ≡ Some l
    → l.0 < n + length xs
found_low p n [] l is = absurd (cc)
found_low p n (x ∷ xs) l is = go (p (n, x)) (λ rest. found_low p (n + 1) xs l rest) is
  where
    go : (b : Bool) → (find p (enumerate_from (n + 1) xs) ≡ Some l → l.0 < (n + 1) + length xs)
        → cond b (Some (n, x)) (find p (enumerate_from (n + 1) xs)) ≡ Some l → l.0 < n + length (x ∷ xs)
    go true rest here = (let same = ap (λ (k : ℕ × _). k.0) (same_Some (n, x) l here) in omega (arith, same))
    go false rest there = (let low = rest there in omega (arith, low))

lowest_low : (links : List Link) (sides : List Side) (s : Setup) (k : ℕ) → lowest_link links sides s ≡ Some k
    → k < length links
lowest_low links sides s k is = go (find (is_for sides s) (enumerate_from 0 links)) refl is
  where
    go : (o : Option (ℕ × Link)) → find (is_for sides s) (enumerate_from 0 links) ≡ o
        → option_map (λ (l : ℕ × Link). l.0) o ≡ Some k → k < length links
    go None e f = absurd (cc)
    go (Some l) e f =
        (let low = found_low (is_for sides s) 0 links l e in let same = same_Some l.0 k f in omega (arith, low, same))

module _ (n : ℕ) (h : HubView) (low : length h.board.lines ≤ n) (old : Numbered n h) where
  later : (b : Board) → Numbered (n + 1) (with_board h b)
  later b = record { links = old.links; claims = claims_later n h.claims old.claims; sides = old.sides }

  -- one of two
  one_or : (c : Bool) (x y : Reply × HubView) → Numbered (n + 1) x.1 → Numbered (n + 1) y.1
      → Numbered (n + 1) (cond c x y).1
  one_or true x y p q = p
  one_or false x y p q = q

  after_claim : (a : Selection) (o : Option Envelope) → Numbered (n + 1) (claim_found h a o).1
  after_claim a None = later h.board
  after_claim a (Some e) = record {
    links = old.links;
    claims = all-append (λ (w : Waiting). w.message ≤ n + 1) h.claims
        (record { message = next_number h.board; rank = a.rank }) (claims_later n h.claims old.claims)
        (omega (arith, low));
    sides = old.sides;
  }

  after_received : (now : Bool) (rank message : ℕ)
      → Numbered (n + 1) (claimed_now (with_claims h (without_claim h.claims rank message)) now message).1
  after_received now rank message = go now
    where
      claims : AllByRecursion (λ (w : Waiting). w.message ≤ n + 1) (without_claim h.claims rank message)
      claims =
          all-filter (λ (w : Waiting). w.message ≤ n + 1) (λ (w : Waiting). not (is_claim rank message w)) h.claims
          (claims_later n h.claims old.claims)

      go : (now : Bool) → Numbered (n + 1) (claimed_now (with_claims h (without_claim h.claims rank message)) now message).1
      go true = record { links = old.links; claims = claims; sides = old.sides }
      go false = record { links = old.links; claims = claims; sides = old.sides }

  after_side : (s : Setup) (link : ℕ) → link < 32 → Numbered (n + 1) (side_added h s link).1
  after_side s link below = record {
    links = old.links;
    claims = claims_later n h.claims old.claims;
    sides = all-append (λ (t : Side). t.link < 32) h.sides (record { setup = s; link = link }) old.sides below;
  }

  peer_low : (s : Setup) (t : Side) → peer_of h.sides s ≡ Some t → t.link < 32
  peer_low s t is =
      all_at (λ (u : Side). u.link < 32) (filter (is_other_side s) h.sides) (length (filter (is_same_side s) h.sides)) t
      (all-filter (λ (u : Side). u.link < 32) (is_other_side s) h.sides old.sides) is

  first_low : (s : Setup) (k : ℕ) → lowest_link h.links h.sides s ≡ Some k → k < 32
  first_low s k is = (let low = lowest_low h.links h.sides s k is in let few = old.links in omega (arith, low, few))

  after_first : (s : Setup) (o : Option ℕ) → lowest_link h.links h.sides s ≡ o → Numbered (n + 1) (init_first h s o).1
  after_first s None is = later h.board
  after_first s (Some k) is = after_side s k (first_low s k is)

  after_init : (s : Setup) (o : Option Side) → peer_of h.sides s ≡ o → Numbered (n + 1) (init_with h s o).1
  after_init s None is = after_first s (lowest_link h.links h.sides s) refl
  after_init s (Some t) is =
      one_or (same_total s t.setup) (side_added h s t.link) (reply.Code Shape, h)
      (after_side s t.link (peer_low s t is)) (later h.board)

  -- one call more
  numbered_more : (rank : ℕ) (q : Request) → Numbered (n + 1) (outcome h rank q).1
  numbered_more rank (request.Send sync comm dest tag bytes) =
      let sent = sending rank sync comm dest tag bytes in
      one_or (nat_lt (held_count h.board.bodies) 65536)
      (reply.Posted (next_number h.board) (is_done h.board sent), with_board h (send_posted h.board sent bytes))
      (reply.Code Full, h) (later (send_posted h.board sent bytes)) (later h.board)
  numbered_more rank (request.Recv true comm source tag) =
      later (collect (receive_posted h.board (selecting rank comm source tag)) (next_number h.board)).1
  numbered_more rank (request.Recv false comm source tag) =
      later (receive_posted h.board (selecting rank comm source tag))
  numbered_more rank (request.Collect post) =
      one_or (may_collect h rank post) (got_or h reply.NotYet (collect h.board post)) (reply.Code BadRequest, h)
      (later (collect h.board post).1) (later h.board)
  numbered_more rank (request.Finished post) =
      one_or (is_send_of rank (line_of h.board post)) (cond (is_complete h post) reply.Done reply.NotYet, h)
      (reply.Code BadRequest, h) (later h.board) (later h.board)
  numbered_more rank (request.Probe comm source tag) = later h.board
  numbered_more rank (request.Claim comm source tag) =
      after_claim (selecting rank comm source tag) (probed h.board (post.Claim (selecting rank comm source tag)))
  numbered_more rank (request.Claimed now message) =
      one_or (may_receive h.claims rank message)
      (claimed_now (with_claims h (without_claim h.claims rank message)) now message) (reply.Code BadMessage, h)
      (after_received now rank message) (later h.board)
  numbered_more rank (request.All posts) =
      let told = cond (list_all (λ p. is_ready h rank p) posts) (all_collected h (all_got rank h.board posts))
      (reply.NotYet, h) in
      one_or (are_distinct posts && list_all (λ p. is_known h rank p) posts) told (reply.Code BadRequest, h)
      (one_or (list_all (λ p. is_ready h rank p) posts) (all_collected h (all_got rank h.board posts)) (reply.NotYet, h)
      (later (all_got rank h.board posts).1) (later h.board))
      (later h.board)
  numbered_more rank (request.Init sends comm peer tag parts size) =
      after_init (setup_of rank sends comm peer tag parts size)
      (peer_of h.sides (setup_of rank sends comm peer tag parts size)) refl
  numbered_more rank (request.Cut link) =
      one_or (is_receiver h.links rank link) (cut_of (sender_over h.sides link), h) (reply.Code BadRequest, h)
      (later h.board) (later h.board)

-- after any calls
numbered_on : (links : List Link) (rest calls : List Call) → Numbered (length calls) (hub_after links calls)
    → Numbered (length (calls ++ rest)) (hub_after links (calls ++ rest))
numbered_on links [] calls old =
    subst (λ cs. Numbered (length cs) (hub_after links cs)) (sym (append-nil calls)) old
numbered_on links (c ∷ rest) calls old =
    let more = numbered_more (length calls) (hub_after links calls) (board_law links calls).few old c.0 c.1 in
    let count : length calls + 1 ≡ length (calls ++ c ∷ []) = sym (length-append calls (c ∷ [])) in
    let next : Numbered (length (calls ++ c ∷ [])) (hub_after links (calls ++ c ∷ [])) =
    subst (λ k. Numbered k (hub_after links (calls ++ c ∷ []))) count
    (subst (λ (k : HubView). Numbered (length calls + 1) k) (sym (hub_on-snoc calls (hub_at_start links) c)) more) in
    subst (λ cs. Numbered (length cs) (hub_after links cs)) (append_assoc calls (c ∷ []) rest)
    (numbered_on links rest (calls ++ c ∷ []) next)

pub numbered : (links : List Link) (calls : List Call) → length links ≤ 32
    → Numbered (length calls) (hub_after links calls)
numbered links calls few = numbered_on links calls [] (record { links = few; claims = tt; sides = tt })

-- ---- the reply to one call

got_one : (o : Option Message) → ((m : Message) → o ≡ Some m → FitsMessage m) → FitsGot o
got_one None each = tt
got_one (Some m) each = each m refl

message_or_fits : (other : Reply) (o : Option Message) → FitsReply other
    → ((m : Message) → message_or other o ≡ reply.Got m → FitsMessage m) → FitsReply (message_or other o)
message_or_fits other None fits each = fits
message_or_fits other (Some m) fits each = each m refl

-- a claim that may be received has a number of a post
claim_low : (n rank message : ℕ) (ws : List Waiting) → AllByRecursion (λ (w : Waiting). w.message ≤ n) ws
    → may_receive ws rank message ≡ true → message ≤ n
claim_low n rank message [] all may = absurd (cc)
claim_low n rank message (w ∷ ws) all may =
    go (is_claim rank message w) refl (λ rest. claim_low n rank message ws all.1 rest) may
  where
    go : (b : Bool) → is_claim rank message w ≡ b → (may_receive ws rank message ≡ true → message ≤ n)
        → (b || may_receive ws rank message) ≡ true → message ≤ n
    go true is rest may =
        let same = eqb-true w.message message (and_parts (w.rank == rank) (w.message == message) is).1 in
        let low = all.0 in
        omega (arith, same, low)
    go false is rest may = rest may

module _ (links : List Link) (calls : List Call) (right : AreRight calls) (few : length links ≤ 32)
    (below : length calls < 2 ^ 62) (rank : ℕ) where
  abbrev hub : HubView
  hub = hub_after links calls

  next_low : next_number hub.board < 2 ^ 64
  next_low = (let least = (board_law links calls).few in omega (arith, least, below))

  old_low : (message : ℕ) → message ≤ length calls → message < 2 ^ 64
  old_low message low = omega (arith, low, below)

  message_fits : (q : Request) (m : Message) → reply_of links calls rank q ≡ reply.Got m → FitsMessage m
  message_fits q m is =
      let sent = sent_law.got links calls rank q m is in sent_fits links calls right sent.2.0 m sent.2.2

  -- a reply that depends on a test
  fits_or : (c : Bool) (x y : Reply × HubView) → (c ≡ true → FitsReply x.0) → FitsReply y.0 → FitsReply (cond c x y).0
  fits_or true x y p q = p refl
  fits_or false x y p q = q

  word_fits : (c : Bool) → FitsReply (cond c reply.Done reply.NotYet)
  word_fits true = tt
  word_fits false = tt

  probe_fits : (comm : ℕ) (source tag : Option ℕ) (o : Option Envelope)
      → probed hub.board (post.Receive (selecting rank comm source tag)) ≡ o → FitsReply (seen o)
  probe_fits comm source tag None is = tt
  probe_fits comm source tag (Some e) is =
      let sent = sent_law.seen links calls rank comm source tag e (ap seen is) in
      subst FitsEnvelope sent.4 ((sent_fits links calls right sent.0 sent.1 sent.3).envelope)

  claim_fits : (comm : ℕ) (source tag : Option ℕ) (o : Option Envelope)
      → probed hub.board (post.Claim (selecting rank comm source tag)) ≡ o
      → FitsReply (held (handle_if (next_number hub.board) o))
  claim_fits comm source tag None is = tt
  claim_fits comm source tag (Some e) is =
      let sent = sent_law.held links calls rank comm source tag (next_number hub.board) e
      (ap (λ (o : Option Envelope). held (handle_if (next_number hub.board) o)) is) in
      (next_low, subst FitsEnvelope sent.2 ((sent_fits links calls right sent.3.0 sent.0 sent.3.2).envelope))

  all_fits : (posts : List ℕ) (gots : List (Option Message)) → length posts ≤ 255
      → reply_of links calls rank (request.All posts) ≡ reply.AllGot gots → FitsReply (reply.AllGot gots)
  all_fits posts gots most is =
      let sent = sent_law.all links calls rank posts gots is in
      let even = sent.0 in (
        omega (arith, even, most),
        λ k d there.
            got_one (get_or gots k d)
            (λ m same.
            let at = slice_get-get_or posts k 0 (omega (arith, even, there)) in
            let got = slice_get-get_or gots k d there ∙ ap (λ o. Some o) same in
            let one = sent.1 k (get_or posts k 0) m at got in
            sent_fits links calls right one.0 m one.2),
      )

  first_fits : (s : Setup) (o : Option ℕ) → lowest_link hub.links hub.sides s ≡ o → FitsReply (init_first hub s o).0
  first_fits s None is = tt
  first_fits s (Some k) is =
      first_low (length calls) hub (board_law links calls).few (numbered links calls few) s k is

  init_fits : (s : Setup) (o : Option Side) → peer_of hub.sides s ≡ o → FitsReply (init_with hub s o).0
  init_fits s None is = first_fits s (lowest_link hub.links hub.sides s) refl
  init_fits s (Some t) is =
      fits_or (same_total s t.setup) (side_added hub s t.link) (reply.Code Shape, hub)
      (λ same. peer_low (length calls) hub (board_law links calls).few (numbered links calls few) s t is) tt

  abbrev told : Bool → Option Side → Reply
  told c o = (let r : Reply × HubView = cond c (cut_of o, hub) (reply.Code BadRequest, hub) in r.0)

  cut_reply_fits : (link : ℕ) (c : Bool) (o : Option Side) → is_receiver hub.links rank link ≡ c
      → sender_over hub.sides link ≡ o → FitsReply (told c o)
  cut_reply_fits link true None is from = tt
  cut_reply_fits link false o is from = tt
  cut_reply_fits link true (Some t) is from =
      cut_fits links calls right link t.setup.parts t.setup.size
      ((cut_law.told links calls rank link t.setup.parts t.setup.size).0
      (λ i. told (is i) (from i))).1

  claimed_fits : (now : Bool) (message : ℕ) → may_receive hub.claims rank message ≡ true
      → FitsReply (claimed_now (with_claims hub (without_claim hub.claims rank message)) now message).0
  claimed_fits true message may =
      message_or_fits reply.NotYet (collect hub.board message).0 tt
      (λ m is. message_fits (request.Claimed true message) m
      (ap (λ c. (cond c (claimed_now (with_claims hub (without_claim hub.claims rank message)) true message)
      (reply.Code BadMessage, hub)).0) may ∙ is))
  claimed_fits false message may =
      old_low message
      (claim_low (length calls) rank message hub.claims (numbered links calls few).claims may)

  gathered_fits : (posts : List ℕ) → length posts ≤ 255 → (c d : Bool)
      → (are_distinct posts && list_all (λ p. is_known hub rank p) posts) ≡ c
      → list_all (λ p. is_ready hub rank p) posts ≡ d
      → FitsReply (cond c (cond d (all_collected hub (all_got rank hub.board posts)) (reply.NotYet, hub))
      (reply.Code BadRequest, hub)).0
  gathered_fits posts most false d known ready = tt
  gathered_fits posts most true false known ready = tt
  gathered_fits posts most true true known ready =
      all_fits posts (all_got rank hub.board posts).0 most
      (λ i. (cond (known i) (cond (ready i) (all_collected hub (all_got rank hub.board posts)) (reply.NotYet, hub))
      (reply.Code BadRequest, hub)).0)

  -- the reply to a right request
  pub reply_fits : (q : Request) → IsRight q → FitsReply (reply_of links calls rank q)
  reply_fits (request.Send sync comm dest tag bytes) q =
      let sent = sending rank sync comm dest tag bytes in
      fits_or (nat_lt (held_count hub.board.bodies) 65536)
      (reply.Posted (next_number hub.board) (is_done hub.board sent), with_board hub (send_posted hub.board sent bytes))
      (reply.Code Full, hub) (λ room. next_low) tt
  reply_fits (request.Recv true comm source tag) q =
      message_or_fits (reply.Posted (next_number hub.board) false)
      (collect (receive_posted hub.board (selecting rank comm source tag)) (next_number hub.board)).0 next_low
      (message_fits (request.Recv true comm source tag))
  reply_fits (request.Recv false comm source tag) q = next_low
  reply_fits (request.Collect post) q =
      fits_or (may_collect hub rank post) (got_or hub reply.NotYet (collect hub.board post))
      (reply.Code BadRequest, hub)
      (λ may.
      message_or_fits reply.NotYet (collect hub.board post).0 tt
      (λ m is. message_fits (request.Collect post) m
      (ap (λ c. (cond c (got_or hub reply.NotYet (collect hub.board post)) (reply.Code BadRequest, hub)).0) may ∙ is)))
      tt
  reply_fits (request.Finished post) q =
      fits_or (is_send_of rank (line_of hub.board post)) (cond (is_complete hub post) reply.Done reply.NotYet, hub)
      (reply.Code BadRequest, hub) (λ own. word_fits (is_complete hub post)) tt
  reply_fits (request.Probe comm source tag) q =
      probe_fits comm source tag (probed hub.board (post.Receive (selecting rank comm source tag))) refl
  reply_fits (request.Claim comm source tag) q =
      claim_fits comm source tag (probed hub.board (post.Claim (selecting rank comm source tag))) refl
  reply_fits (request.Claimed now message) q =
      fits_or (may_receive hub.claims rank message)
      (claimed_now (with_claims hub (without_claim hub.claims rank message)) now message) (reply.Code BadMessage, hub)
      (claimed_fits now message) tt
  reply_fits (request.All posts) q =
      gathered_fits posts q (are_distinct posts && list_all (λ p. is_known hub rank p) posts)
      (list_all (λ p. is_ready hub rank p) posts) refl refl
  reply_fits (request.Init sends comm peer tag parts size) q =
      init_fits (setup_of rank sends comm peer tag parts size)
      (peer_of hub.sides (setup_of rank sends comm peer tag parts size)) refl
  reply_fits (request.Cut link) q =
      cut_reply_fits link (is_receiver hub.links rank link) (sender_over hub.sides link) refl refl
