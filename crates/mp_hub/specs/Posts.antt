-- The hub's posts are those of its calls, each with its number.
use Rattle.std.specs.Prelude.{ℕ, ◌≡◌, Bool, List, Option}
use Rattle.rv_image_types.specs.declared.images.Link.{Link}
use Rattle.mp_types.specs.declared.messages.Envelope.{Envelope}
use Rattle.mp_types.specs.declared.requests.Request.TheVariants as request
use Rattle.mp_types.specs.declared.replies.Reply.TheVariants.{Posted, Held}
use Rattle.mp_match.specs.PostPairs.{pairs}
use Rattle.mp_hub.specs.Hub.{Call, hub_after, reply_of}
use Rattle.mp_hub.specs.Histories.{posts_after, number_after}

pub record PostsLaw : Type 0 where
  -- the hub's posts are those that the calls made, in their order, with the pairs that these have
  pub board : (links : List Link) (calls : List Call)
      → (hub_after links calls).board.lines ≡ pairs (posts_after links calls)
  -- what makes a post is told its number: one more than there were posts
  pub sends : (links : List Link) (calls : List Call) (rank : ℕ) (sync : Bool) (comm dest tag : ℕ) (bytes : List ℕ)
      (number : ℕ) (done : Bool)
      → reply_of links calls rank (request.Send sync comm dest tag bytes) ≡ Posted number done
      → number ≡ number_after links calls
  pub receives : (links : List Link) (calls : List Call) (rank : ℕ) (now : Bool) (comm : ℕ) (source tag : Option ℕ)
      (number : ℕ) (done : Bool) → reply_of links calls rank (request.Recv now comm source tag) ≡ Posted number done
      → number ≡ number_after links calls
  pub claims : (links : List Link) (calls : List Call) (rank comm : ℕ) (source tag : Option ℕ) (number : ℕ)
      (e : Envelope)
      → reply_of links calls rank (request.Claim comm source tag) ≡ Held number e → number ≡ number_after links calls
