-- What the hub answers: for each request, the reply and what the hub is afterwards.
use Rattle.std.specs.Prelude.{ℕ, ◌==◌, ◌&&◌, ◌||◌, not, nat_lt, Bool, true, false, cond, List, [], ◌∷◌, ◌++◌, length}
use Rattle.std.specs.Prelude.{Option, Some, None}
use Rattle.std.specs.List.{list_any, list_all}
use Rattle.std.specs.Option.{is_some}
use Rattle.rv_image_types.specs.declared.images.Link.{Link}
use Rattle.mp_types.specs.declared.messages.Envelope.{Envelope}
use Rattle.mp_types.specs.declared.messages.Message.{Message}
use Rattle.mp_types.specs.declared.requests.Request.{Request}
use Rattle.mp_types.specs.declared.requests.Request.TheVariants as request
use Rattle.mp_types.specs.declared.codes.Code.TheVariants.{BadRequest, Full, NoChannel, Shape, BadMessage}
use Rattle.mp_types.specs.declared.replies.Reply.{Reply}
use Rattle.mp_types.specs.declared.replies.Reply.TheVariants.{Code, Posted, Got, NotYet, Done, Seen, Held, AllGot}
use Rattle.mp_types.specs.declared.replies.Reply.TheVariants.{Link as OnLink, Cut}
use Rattle.mp_match.specs.declared.posts.Sent.{Sent}
use Rattle.mp_match.specs.declared.posts.Selection.{Selection}
use Rattle.mp_match.specs.declared.posts.Post.TheVariants.{Send, Receive, Claim}
use Rattle.mp_match.specs.Pairs.{partner_for}
use Rattle.mp_match.specs.Board.{Board, no_posts, held_count, send_posted, receive_posted, claimed_if, line_of}
use Rattle.mp_match.specs.Board.{partner_of, claim_of, is_send_of, is_receive_of, is_finished, is_collected, probed}
use Rattle.mp_match.specs.Board.{collect}
use Rattle.mp_probe.specs.declared.handles.Waiting.{Waiting}
use Rattle.mp_probe.specs.Claims.{next_number, may_receive, is_waiting, without_claim, waiting_if, handle_if}
use Rattle.mp_transfers.specs.declared.sides.Setup.{Setup}
use Rattle.mp_transfers.specs.declared.sides.Side.{Side}
use Rattle.mp_transfers.specs.Inits.{peer_of, lowest_link, same_total, sender_over, is_receiver}

-- the image's links, the posts, the claimed messages that weren't received, the initialisations that weren't refused
pub record HubView : Type 0 where
  pub links : List Link
  pub board : Board
  pub claims : List Waiting
  pub sides : List Side

abbrev pub hub_at_start : List Link → HubView
hub_at_start links = record { links = links; board = no_posts; claims = []; sides = [] }

abbrev pub with_board : HubView → Board → HubView
with_board h b = record { links = h.links; board = b; claims = h.claims; sides = h.sides }

abbrev pub with_claims : HubView → List Waiting → HubView
with_claims h claims = record { links = h.links; board = h.board; claims = claims; sides = h.sides }

abbrev pub with_sides : HubView → List Side → HubView
with_sides h sides = record { links = h.links; board = h.board; claims = h.claims; sides = sides }

abbrev pub selecting : ℕ → ℕ → Option ℕ → Option ℕ → Selection
selecting rank comm source tag = record { rank = rank; comm = comm; source = source; tag = tag }

abbrev pub sending : ℕ → Bool → ℕ → ℕ → ℕ → List ℕ → Sent
sending rank sync comm dest tag bytes =
    record {
      sync = sync;
      dest = dest;
      envelope = record { comm = comm; source = rank; tag = tag; count = length bytes };
    }

-- ---- sends and receives (chapters 3.2, 3.4 and 3.7)

-- whether a send is complete at once: a standard one is, and a synchronous one that is paired
abbrev pub is_done : Board → Sent → Bool
is_done b s = not s.sync || is_some (partner_for b.lines (Send s))

abbrev pub send_outcome : HubView → Sent → List ℕ → Reply × HubView
send_outcome h s bytes =
    cond (nat_lt (held_count h.board.bodies) 65536)
    (Posted (next_number h.board) (is_done h.board s), with_board h (send_posted h.board s bytes))
    (Code Full, h)

abbrev pub message_or : Reply → Option Message → Reply
message_or other None = other
message_or other (Some m) = Got m

-- the message that was collected, or else that reply
abbrev pub got_or : HubView → Reply → Option Message × Board → Reply × HubView
got_or h other g = (message_or other g.0, with_board h g.1)

abbrev pub recv_outcome : HubView → Bool → Selection → Reply × HubView
recv_outcome h true a =
    got_or h (Posted (next_number h.board) false) (collect (receive_posted h.board a) (next_number h.board))
recv_outcome h false a = (Posted (next_number h.board) false, with_board h (receive_posted h.board a))

-- the rank's receive or received claim, not yet collected
abbrev pub may_collect : HubView → ℕ → ℕ → Bool
may_collect h rank number =
    is_receive_of rank (line_of h.board number) && not (is_waiting h.claims number) && not (is_collected h.board number)

abbrev pub collect_outcome : HubView → ℕ → ℕ → Reply × HubView
collect_outcome h rank number =
    cond (may_collect h rank number) (got_or h NotYet (collect h.board number)) (Code BadRequest, h)

abbrev pub was_received : HubView → Option ℕ → Bool
was_received h None = false
was_received h (Some claim) = not (is_waiting h.claims claim)

-- a standard send, one that is paired with a receive, and one whose claim was received
abbrev pub is_complete : HubView → ℕ → Bool
is_complete h number = is_finished h.board number || was_received h (claim_of h.board number)

abbrev pub finished_outcome : HubView → ℕ → ℕ → Reply × HubView
finished_outcome h rank number =
    cond (is_send_of rank (line_of h.board number)) (cond (is_complete h number) Done NotYet, h) (Code BadRequest, h)

-- ---- probes and claims (chapter 3.8)

abbrev pub seen : Option Envelope → Reply
seen None = NotYet
seen (Some envelope) = Seen envelope

abbrev pub probe_outcome : HubView → Selection → Reply × HubView
probe_outcome h a = (seen (probed h.board (Receive a)), h)

abbrev pub held : Option (ℕ × Envelope) → Reply
held None = NotYet
held (Some handle) = Held handle.0 handle.1

-- a claim takes what it finds out of matching
abbrev pub claim_found : HubView → Selection → Option Envelope → Reply × HubView
claim_found h a found = (
  held (handle_if (next_number h.board) found),
  with_claims (with_board h (claimed_if h.board a found)) (waiting_if h.claims a.rank (next_number h.board) found),
)

abbrev pub claim_outcome : HubView → Selection → Reply × HubView
claim_outcome h a = claim_found h a (probed h.board (Claim a))

abbrev pub claimed_now : HubView → Bool → ℕ → Reply × HubView
claimed_now h true message = got_or h NotYet (collect h.board message)
claimed_now h false message = (Posted message false, h)

abbrev pub claimed_outcome : HubView → ℕ → Bool → ℕ → Reply × HubView
claimed_outcome h rank now message =
    cond (may_receive h.claims rank message)
    (claimed_now (with_claims h (without_claim h.claims rank message)) now message)
    (Code BadMessage, h)

-- ---- several posts (chapter 3.7.5)

abbrev pub is_known : HubView → ℕ → ℕ → Bool
is_known h rank number = may_collect h rank number || is_send_of rank (line_of h.board number)

abbrev pub is_ready : HubView → ℕ → ℕ → Bool
is_ready h rank number =
    cond (is_send_of rank (line_of h.board number)) (is_complete h number) (is_some (partner_of h.board number))

abbrev pub are_distinct : List ℕ → Bool
are_distinct [] = true
are_distinct (n ∷ ns) = not (list_any (λ m. m == n) ns) && are_distinct ns

-- a send gives nothing
abbrev pub one_got : ℕ → Board → ℕ → Option Message × Board
one_got rank b number = cond (is_send_of rank (line_of b number)) (None, b) (collect b number)

-- the posts are collected in turn
abbrev pub all_got : ℕ → Board → List ℕ → List (Option Message) × Board
all_got rank b [] = ([], b)
all_got rank b (n ∷ ns) =
    ((one_got rank b n).0 ∷ (all_got rank (one_got rank b n).1 ns).0, (all_got rank (one_got rank b n).1 ns).1)

abbrev pub all_collected : HubView → List (Option Message) × Board → Reply × HubView
all_collected h g = (AllGot g.0, with_board h g.1)

-- all of the posts or none
abbrev pub all_outcome : HubView → ℕ → List ℕ → Reply × HubView
all_outcome h rank numbers =
    cond (are_distinct numbers && list_all (λ n. is_known h rank n) numbers)
    (cond (list_all (λ n. is_ready h rank n) numbers) (all_collected h (all_got rank h.board numbers)) (NotYet, h))
    (Code BadRequest, h)

-- ---- initialisations of partitioned transfers (chapter 4.2)

abbrev pub setup_of : ℕ → Bool → ℕ → ℕ → ℕ → ℕ → ℕ → Setup
setup_of rank sends comm peer tag parts size =
    record {
      sending = sends;
      comm = comm;
      from = cond sends rank peer;
      to = cond sends peer rank;
      tag = tag;
      parts = parts;
      size = size;
    }

abbrev pub side_added : HubView → Setup → ℕ → Reply × HubView
side_added h s link = (OnLink link, with_sides h (h.sides ++ record { setup = s; link = link } ∷ []))

-- the first of a pair reserves a link for good
abbrev pub init_first : HubView → Setup → Option ℕ → Reply × HubView
init_first h s None = (Code NoChannel, h)
init_first h s (Some link) = side_added h s link

-- the second of a pair has the first one's link and total
abbrev pub init_with : HubView → Setup → Option Side → Reply × HubView
init_with h s None = init_first h s (lowest_link h.links h.sides s)
init_with h s (Some peer) = cond (same_total s peer.setup) (side_added h s peer.link) (Code Shape, h)

abbrev pub init_outcome : HubView → Setup → Reply × HubView
init_outcome h s = init_with h s (peer_of h.sides s)

abbrev pub cut_of : Option Side → Reply
cut_of None = NotYet
cut_of (Some t) = Cut t.setup.parts t.setup.size

-- how the sender of a link cut its transfer, which is told to the link's receiver alone
abbrev pub cut_outcome : HubView → ℕ → ℕ → Reply × HubView
cut_outcome h rank link =
    cond (is_receiver h.links rank link) (cut_of (sender_over h.sides link), h) (Code BadRequest, h)

-- ---- one call

abbrev pub outcome : HubView → ℕ → Request → Reply × HubView
outcome h rank (request.Send sync comm dest tag bytes) = send_outcome h (sending rank sync comm dest tag bytes) bytes
outcome h rank (request.Recv now comm source tag) = recv_outcome h now (selecting rank comm source tag)
outcome h rank (request.Collect post) = collect_outcome h rank post
outcome h rank (request.Finished post) = finished_outcome h rank post
outcome h rank (request.Probe comm source tag) = probe_outcome h (selecting rank comm source tag)
outcome h rank (request.Claim comm source tag) = claim_outcome h (selecting rank comm source tag)
outcome h rank (request.Claimed now message) = claimed_outcome h rank now message
outcome h rank (request.All posts) = all_outcome h rank posts
outcome h rank (request.Init sends comm peer tag parts size) =
    init_outcome h (setup_of rank sends comm peer tag parts size)
outcome h rank (request.Cut link) = cut_outcome h rank link

-- a call: the rank that makes it, and its request
abbrev pub Call : Type 0
Call = ℕ × Request

-- the hub after some calls
abbrev pub hub_on : HubView → List Call → HubView
hub_on h [] = h
hub_on h (c ∷ cs) = hub_on (outcome h c.0 c.1).1 cs

abbrev pub hub_after : List Link → List Call → HubView
hub_after links calls = hub_on (hub_at_start links) calls

-- the reply to a call, as a function of the links and the calls before
abbrev pub reply_of : List Link → List Call → ℕ → Request → Reply
reply_of links calls rank q = (outcome (hub_after links calls) rank q).0
