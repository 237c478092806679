-- Whose posts a call may ask for, and which reply belongs to which request.
use Rattle.std.specs.Prelude.{ℕ, suc, ◌≡◌, ◌⊎◌, Bool, true, false, List, [], ◌∷◌, ◌++◌, length}
use Rattle.std.specs.List.{Contains}
use Rattle.rv_image_types.specs.declared.images.Link.{Link}
use Rattle.mp_types.specs.declared.codes.Code.{Code}
use Rattle.mp_types.specs.declared.codes.Code.TheVariants.{BadRequest, Full, NoChannel, Shape, BadMessage}
use Rattle.mp_types.specs.declared.requests.Request.{Request}
use Rattle.mp_types.specs.declared.requests.Request.TheVariants as request
use Rattle.mp_types.specs.declared.replies.Reply.{Reply}
use Rattle.mp_types.specs.declared.replies.Reply.TheVariants as reply
use Rattle.mp_match.specs.declared.posts.Sent.{Sent}
use Rattle.mp_match.specs.Order.{SendsAt}
use Rattle.mp_hub.specs.Hub.{Call, hub_after, reply_of}
use Rattle.mp_hub.specs.Histories.{posts_after, got_after, received_after}
use Rattle.mp_hub.specs.Losses.{ClaimsOf, CollectsOf}

-- ---- whose it is

-- the post is the rank's send
abbrev pub SendsOf : List Link → List Call → ℕ → ℕ → Type 0
SendsOf links calls rank place =
    (s : Sent) × SendsAt (posts_after links calls) place s × (s.envelope.source ≡ rank)

-- the number is that of a post of which this holds
abbrev pub IsNumberOf : (ℕ → Type 0) → ℕ → Type 0
IsNumberOf P number = (place : ℕ) × (number ≡ suc place) × P place

-- a post that isn't the rank's, or whose message was got, is refused; what is refused changes nothing
pub record OwnersLaw : Type 0 where
  pub collects : (links : List Link) (calls : List Call) (rank number : ℕ)
      → ¬ IsNumberOf (CollectsOf links calls rank) number
      → reply_of links calls rank (request.Collect number) ≡ reply.Code BadRequest
  pub collects_once : (links : List Link) (calls : List Call) (rank number : ℕ)
      → Contains (got_after links calls) number
      → reply_of links calls rank (request.Collect number) ≡ reply.Code BadRequest
  pub finishes : (links : List Link) (calls : List Call) (rank number : ℕ)
      → ¬ IsNumberOf (SendsOf links calls rank) number
      → reply_of links calls rank (request.Finished number) ≡ reply.Code BadRequest
  pub claims : (links : List Link) (calls : List Call) (rank number : ℕ) (now : Bool)
      → ¬ IsNumberOf (ClaimsOf links calls rank) number
      → reply_of links calls rank (request.Claimed now number) ≡ reply.Code BadMessage
  pub claims_once : (links : List Link) (calls : List Call) (rank number : ℕ) (now : Bool)
      → Contains (received_after links calls) number
      → reply_of links calls rank (request.Claimed now number) ≡ reply.Code BadMessage
  pub all : (links : List Link) (calls : List Call) (rank number : ℕ) (numbers : List ℕ) → Contains numbers number
      → ¬ IsNumberOf (SendsOf links calls rank) number
      → (¬ IsNumberOf (CollectsOf links calls rank) number) ⊎ Contains (got_after links calls) number
      → reply_of links calls rank (request.All numbers) ≡ reply.Code BadRequest
  pub unchanged : (links : List Link) (calls : List Call) (rank : ℕ) (q : Request) (c : Code)
      → reply_of links calls rank q ≡ reply.Code c
      → hub_after links (calls ++ (rank, q) ∷ []) ≡ hub_after links calls

-- ---- which reply belongs to which request

-- a reply of the form that the request asks for, or a code that the request may be refused with
abbrev pub IsReplyTo : Request → Reply → Type 0
IsReplyTo (request.Send sync comm dest tag bytes) (reply.Posted number done) = Unit {0}
IsReplyTo (request.Send sync comm dest tag bytes) (reply.Code c) = c ≡ Full
IsReplyTo (request.Recv now comm source tag) (reply.Posted number done) = done ≡ false
IsReplyTo (request.Recv now comm source tag) (reply.Got m) = now ≡ true
IsReplyTo (request.Collect number) (reply.Got m) = Unit {0}
IsReplyTo (request.Collect number) reply.NotYet = Unit {0}
IsReplyTo (request.Collect number) (reply.Code c) = c ≡ BadRequest
IsReplyTo (request.Finished number) reply.Done = Unit {0}
IsReplyTo (request.Finished number) reply.NotYet = Unit {0}
IsReplyTo (request.Finished number) (reply.Code c) = c ≡ BadRequest
IsReplyTo (request.Probe comm source tag) (reply.Seen e) = Unit {0}
IsReplyTo (request.Probe comm source tag) reply.NotYet = Unit {0}
IsReplyTo (request.Claim comm source tag) (reply.Held number e) = Unit {0}
IsReplyTo (request.Claim comm source tag) reply.NotYet = Unit {0}
IsReplyTo (request.Claimed now message) (reply.Got m) = now ≡ true
IsReplyTo (request.Claimed now message) (reply.Posted number done) =
    (now ≡ false) × (number ≡ message) × (done ≡ false)
IsReplyTo (request.Claimed now message) (reply.Code c) = c ≡ BadMessage
IsReplyTo (request.All numbers) (reply.AllGot gots) = length gots ≡ length numbers
IsReplyTo (request.All numbers) reply.NotYet = Unit {0}
IsReplyTo (request.All numbers) (reply.Code c) = c ≡ BadRequest
IsReplyTo (request.Init sends comm peer tag parts size) (reply.Link link) = Unit {0}
IsReplyTo (request.Init sends comm peer tag parts size) (reply.Code c) = (c ≡ NoChannel) ⊎ (c ≡ Shape)
IsReplyTo (request.Cut link) (reply.Cut parts size) = Unit {0}
IsReplyTo (request.Cut link) reply.NotYet = Unit {0}
IsReplyTo (request.Cut link) (reply.Code c) = c ≡ BadRequest
IsReplyTo q r = ⊥

-- the hub gives no other
abbrev pub RepliesLaw : Type 0
RepliesLaw =
    (links : List Link) (calls : List Call) (rank : ℕ) (q : Request) → IsReplyTo q (reply_of links calls rank q)
