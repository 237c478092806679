-- Laws of the hub's meaning, for all links and all lists of calls.
use Rattle.std.specs.Prelude.{ℕ, ◌≡◌, ◌≤◌, ◌+◌, Bool, true, List, [], ◌∷◌, ◌++◌, length, Option, Some, None, slice_get}
use Rattle.rv_image_types.specs.declared.images.Link.{Link}
use Rattle.mp_types.specs.declared.messages.Envelope.{Envelope}
use Rattle.mp_types.specs.declared.messages.Message.{Message}
use Rattle.mp_types.specs.declared.requests.Request.{Request}
use Rattle.mp_types.specs.declared.requests.Request.TheVariants as request
use Rattle.mp_types.specs.declared.replies.Reply.{Reply}
use Rattle.mp_types.specs.declared.replies.Reply.TheVariants.{Posted, Got, Seen, Held, AllGot}
use Rattle.mp_match.specs.Pairs.{partner_for}
use Rattle.mp_match.specs.PostPairs.{pairs, posts_of}
use Rattle.mp_match.specs.declared.posts.Post.TheVariants as post
use Rattle.mp_match.specs.Board.{Board, partner_of}
use Rattle.mp_probe.specs.Claims.{next_number}
use Rattle.mp_hub.specs.Hub.{HubView, Call, hub_after, reply_of, selecting}

-- the lines are the pairs of the posts, and a call makes one post at most
pub record IsBoardOf (calls : List Call) (b : Board) : Type 0 where
  pub pairs : b.lines ≡ pairs (posts_of b.lines)
  pub few : length b.lines ≤ length calls

abbrev pub BoardLaw : Type 0
BoardLaw = (links : List Link) (calls : List Call) → IsBoardOf calls (hub_after links calls).board

-- among the calls is a send that was posted at the place, and this is its message
pub record SentAt (links : List Link) (calls : List Call) (place : ℕ) (m : Message) : Type 0 where
  pub before : List Call
  pub after : List Call
  pub sender : ℕ
  pub sync : Bool
  pub dest : ℕ
  pub done : Bool
  pub made : calls ≡ before ++ (sender, request.Send sync m.envelope.comm dest m.envelope.tag m.bytes) ∷ after
  pub answered : reply_of links before sender (request.Send sync m.envelope.comm dest m.envelope.tag m.bytes)
      ≡ Posted (place + 1) done
  pub source : m.envelope.source ≡ sender
  pub count : m.envelope.count ≡ length m.bytes

-- the post has a partner, and this is the partner's message as it was sent
abbrev pub PairedWith : List Link → List Call → Board → ℕ → Message → Type 0
PairedWith links calls b number m = (place : ℕ) × (partner_of b number ≡ Some place) × SentAt links calls place m

-- the number of the post that a request collects: a receive's own, which comes next, or one that was made before
abbrev pub collecting : HubView → Request → Option ℕ
collecting h (request.Recv now comm source tag) = Some (next_number h.board)
collecting h (request.Collect number) = Some number
collecting h (request.Claimed now message) = Some message
collecting h _ = None

-- what is got is what was sent: the message of the very send that is paired with the post
abbrev pub GotIsSent : List Link → List Call → ℕ → Request → Type 0
GotIsSent links calls rank q = (m : Message) → reply_of links calls rank q ≡ Got m
    → (number : ℕ) × (collecting (hub_after links calls) q ≡ Some number)
    × PairedWith links calls (hub_after links (calls ++ (rank, q) ∷ [])).board number m

-- what is seen is the envelope of the very send that a receive posted now would be paired with
abbrev pub SeenIsSent : List Link → List Call → ℕ → ℕ → Option ℕ → Option ℕ → Type 0
SeenIsSent links calls rank comm source tag = (e : Envelope)
    → reply_of links calls rank (request.Probe comm source tag) ≡ Seen e
    → (place : ℕ) × (m : Message)
    × (partner_for (hub_after links calls).board.lines (post.Receive (selecting rank comm source tag)) ≡ Some place)
    × SentAt links calls place m × (m.envelope ≡ e)

-- a claim is the next post, and its envelope is that of the very send that is paired with it
abbrev pub HeldIsSent : List Link → List Call → ℕ → Request → Type 0
HeldIsSent links calls rank q = (number : ℕ) (e : Envelope) → reply_of links calls rank q ≡ Held number e
    → (m : Message) × (number ≡ next_number (hub_after links calls).board) × (m.envelope ≡ e)
    × PairedWith links calls (hub_after links (calls ++ (rank, q) ∷ [])).board number m

-- of several posts each message is that of the very send that is paired with the post in its place
abbrev pub AllGotIsSent : List Link → List Call → ℕ → List ℕ → Type 0
AllGotIsSent links calls rank numbers = (gots : List (Option Message))
    → reply_of links calls rank (request.All numbers) ≡ AllGot gots
    → (length gots ≡ length numbers)
    × ((i number : ℕ) (m : Message) → slice_get numbers i ≡ Some number → slice_get gots i ≡ Some (Some m)
    → PairedWith links calls (hub_after links calls).board number m)

pub record SentLaw : Type 0 where
  pub got : (links : List Link) (calls : List Call) (rank : ℕ) (q : Request) → GotIsSent links calls rank q
  pub seen : (links : List Link) (calls : List Call) (rank comm : ℕ) (source tag : Option ℕ)
      → SeenIsSent links calls rank comm source tag
  pub held : (links : List Link) (calls : List Call) (rank comm : ℕ) (source tag : Option ℕ)
      → HeldIsSent links calls rank (request.Claim comm source tag)
  pub all : (links : List Link) (calls : List Call) (rank : ℕ) (numbers : List ℕ)
      → AllGotIsSent links calls rank numbers

-- how many messages a request may bring
abbrev pub most_messages : Request → ℕ
most_messages (request.Recv true comm source tag) = 1
most_messages (request.Collect number) = 1
most_messages (request.Claimed true message) = 1
most_messages (request.All numbers) = length numbers
most_messages _ = 0

-- how many messages a reply has places for
abbrev pub message_count : Reply → ℕ
message_count (Got m) = 1
message_count (AllGot gots) = length gots
message_count _ = 0

-- a reply brings no more messages than its request may bring
abbrev pub CountLaw : Type 0
CountLaw = (links : List Link) (calls : List Call) (rank : ℕ) (q : Request)
    → message_count (reply_of links calls rank q) ≤ most_messages q
