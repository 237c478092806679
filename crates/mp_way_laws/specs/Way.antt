-- A hub at which each message is on its way until it arrives. Those of one rank to another in one communicator arrive
-- in the order in which they were sent (MPI 4.1, chapter 3.5); of all others any may arrive first.
use Rattle.std.specs.Prelude.{ℕ, ◌<◌, ◌≡◌, not, nat_lt, Bool, true, false, cond, List, [], ◌∷◌, ◌++◌, Option, Some, None}
use Rattle.std.specs.List.{slice_get}
use Rattle.rv_image_types.specs.declared.images.Link.{Link}
use Rattle.mp_types.specs.declared.messages.Envelope.{Envelope}
use Rattle.mp_types.specs.declared.requests.Request.{Request}
use Rattle.mp_types.specs.declared.requests.Request.TheVariants as request
use Rattle.mp_types.specs.declared.codes.Code.TheVariants.{Full}
use Rattle.mp_types.specs.declared.replies.Reply.{Reply}
use Rattle.mp_types.specs.declared.replies.Reply.TheVariants.{Code, Posted}
use Rattle.mp_match.specs.declared.posts.Sent.{Sent}
use Rattle.mp_match.specs.declared.posts.Selection.{Selection}
use Rattle.mp_match.specs.declared.posts.Post.{Post}
use Rattle.mp_match.specs.declared.posts.Post.TheVariants.{Send, Receive, Claim}
use Rattle.mp_match.specs.declared.posts.Line.{Line}
use Rattle.mp_match.specs.Pairs.{fits, partner_for, partner_set, partners_told}
use Rattle.mp_match.specs.PostPairs.{pairs, posts_of}
use Rattle.mp_match.specs.Order.{SendsAt}
use Rattle.mp_match.specs.Board.{Board, collect, envelope_at, held_count}
use Rattle.mp_probe.specs.Claims.{handle_if, next_number, waiting_if}
use Rattle.mp_hub.specs.Hub.{HubView, got_or, held, hub_at_start, outcome as outcome_at_once, seen, selecting, sending, with_board, with_claims}

-- what a hub keeps, where a post has the partner that it has so far; and the places of the sends whose messages have
-- arrived, in the order in which they did. The messages of all other sends are on their way
pub record WayView : Type 0 where
  pub hub : HubView
  pub arrived : List ℕ

abbrev pub way_at_start : List Link → WayView
way_at_start links = record { hub = hub_at_start links; arrived = [] }

abbrev pub lines_of : WayView → List Line
lines_of w = w.hub.board.lines

-- ---- posting

-- a post at the end, with this partner, if any, which is told of it
abbrev pub add_with : List Line → Post → Option ℕ → List Line
add_with lines new partner = partners_told lines partner ++ record { post = new; partner = partner } ∷ []

abbrev pub posted : Board → Post → Option ℕ → Option (List ℕ) → Board
posted b new partner body =
    record { lines = add_with b.lines new partner; bodies = b.bodies ++ body ∷ []; compared = b.compared }

abbrev pub with_hub : WayView → HubView → WayView
with_hub w h = record { hub = h; arrived = w.arrived }

abbrev pub answered : WayView → Reply × HubView → Reply × WayView
answered w told = (told.0, with_hub w told.1)

-- a send: its message is on its way, whatever receives were posted. A standard send is complete at once, and a
-- synchronous one isn't before it is received (3.4)
abbrev pub send_outcome : WayView → Sent → List ℕ → Reply × WayView
send_outcome w s bytes =
    cond (nat_lt (held_count w.hub.board.bodies) 65536) (
      Posted (next_number w.hub.board) (not s.sync),
      with_hub w (with_board w.hub (posted w.hub.board (Send s) None (Some bytes))),
    )
    (Code Full, w)

-- ---- what has arrived

-- whether the post at a place has no partner, and the new one may have it
abbrev pub fits_in : Post → Option Line → Bool
fits_in new None = false
fits_in new (Some line) = fits new line

-- in the order of arrivals the first message that nobody has and that the new post accepts
abbrev pub first_found : List Line → Post → List ℕ → Option ℕ
first_found lines new [] = None
first_found lines new (place ∷ places) =
    cond (fits_in new (slice_get lines place)) (Some place) (first_found lines new places)

abbrev pub found : WayView → Post → Option ℕ
found w new = first_found (lines_of w) new w.arrived

-- a receive has the message that it finds
abbrev pub received : WayView → Selection → Board
received w a = posted w.hub.board (Receive a) (found w (Receive a)) None

abbrev pub recv_outcome : WayView → Bool → Selection → Reply × WayView
recv_outcome w true a =
    answered w
    (got_or w.hub (Posted (next_number w.hub.board) false) (collect (received w a) (next_number w.hub.board)))
recv_outcome w false a = (Posted (next_number w.hub.board) false, with_hub w (with_board w.hub (received w a)))

-- a probe tells of the message that a receive would find (3.8.1)
abbrev pub probe_outcome : WayView → Selection → Reply × WayView
probe_outcome w a = (seen (envelope_at w.hub.board (found w (Receive a))), w)

-- a claim takes it out of matching (3.8.2)
abbrev pub claimed_if : WayView → Selection → Option Envelope → Board
claimed_if w a None = w.hub.board
claimed_if w a (Some envelope) = posted w.hub.board (Claim a) (found w (Claim a)) None

abbrev pub claim_found : WayView → Selection → Option Envelope → Reply × WayView
claim_found w a envelope = (
  held (handle_if (next_number w.hub.board) envelope),
  with_hub w
      (with_claims (with_board w.hub (claimed_if w a envelope))
      (waiting_if w.hub.claims a.rank (next_number w.hub.board) envelope)),
)

abbrev pub claim_outcome : WayView → Selection → Reply × WayView
claim_outcome w a = claim_found w a (envelope_at w.hub.board (found w (Claim a)))

-- one call: every other one asks for the partners that posts have so far, or for sides of transfers, which are as they
-- were
abbrev pub outcome : WayView → ℕ → Request → Reply × WayView
outcome w rank (request.Send sync comm dest tag bytes) = send_outcome w (sending rank sync comm dest tag bytes) bytes
outcome w rank (request.Recv now comm source tag) = recv_outcome w now (selecting rank comm source tag)
outcome w rank (request.Probe comm source tag) = probe_outcome w (selecting rank comm source tag)
outcome w rank (request.Claim comm source tag) = claim_outcome w (selecting rank comm source tag)
outcome w rank q = answered w (outcome_at_once w.hub rank q)

-- ---- arrivals

abbrev pub HasArrived : List ℕ → ℕ → Type 0
HasArrived arrived place = (n : ℕ) × (slice_get arrived n ≡ Some place)

-- both are of one rank, to one rank, in one communicator
pub record IsSameBox (s t : Sent) : Type 0 where
  pub source : s.envelope.source ≡ t.envelope.source
  pub dest : s.dest ≡ t.dest
  pub comm : s.envelope.comm ≡ t.envelope.comm

-- the message of this send may arrive next: it is on its way, and all that were sent before it from the same rank to
-- the same rank in the same communicator have arrived
pub record IsNext (w : WayView) (place : ℕ) (sent : Sent) : Type 0 where
  pub is : SendsAt (posts_of (lines_of w)) place sent
  pub on_its_way : ¬ HasArrived w.arrived place
  pub first : (i : ℕ) (other : Sent) → i < place → SendsAt (posts_of (lines_of w)) i other → IsSameBox other sent
      → HasArrived w.arrived i

-- two posts are partners, if there is another
abbrev pub joined : List Line → ℕ → Option ℕ → List Line
joined lines place None = lines
joined lines place (Some other) = partner_set (partner_set lines other place) place other

-- the first receive that was posted, has no message, and accepts this one is given it
abbrev pub arrival : WayView → ℕ → Sent → WayView
arrival w place sent = record {
  hub = with_board w.hub
      (record {
        lines = joined (lines_of w) place (partner_for (lines_of w) (Send sent));
        bodies = w.hub.board.bodies;
        compared = w.hub.board.compared;
      });
  arrived = w.arrived ++ place ∷ [];
}

-- ---- once all has arrived

-- the hub of the same posts at which each message arrives as soon as it is sent
abbrev pub all_arrived : WayView → HubView
all_arrived w = with_board w.hub
    (record {
      lines = pairs (posts_of (lines_of w));
      bodies = w.hub.board.bodies;
      compared = w.hub.board.compared;
    })
