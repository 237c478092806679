-- How many messages the hub holds: those that were sent and that nobody has got.
use Rattle.std.specs.Prelude.{ℕ, ◌≡◌, ◌+◌, ◌≤◌, ◌↔◌, Bool, List, [], ◌∷◌, length}
use Rattle.rv_image_types.specs.declared.images.Link.{Link}
use Rattle.mp_types.specs.declared.codes.Code.TheVariants.{Full}
use Rattle.mp_types.specs.declared.requests.Request.TheVariants as request
use Rattle.mp_types.specs.declared.replies.Reply.TheVariants.{Code}
use Rattle.mp_match.specs.declared.posts.Post.{Post}
use Rattle.mp_match.specs.declared.posts.Post.TheVariants.{Send, Receive, Claim}
use Rattle.mp_hub.specs.Hub.{Call, reply_of}
use Rattle.mp_hub.specs.Histories.{posts_after, got_after}

-- how many of the posts are sends
abbrev pub sends_among : List Post → ℕ
sends_among [] = 0
sends_among (Send s ∷ ps) = sends_among ps + 1
sends_among (Receive a ∷ ps) = sends_among ps
sends_among (Claim a ∷ ps) = sends_among ps

-- a send is refused with FULL exactly where 65,536 messages were sent that nobody has got
abbrev pub FullLaw : Type 0
FullLaw =
    (links : List Link) (calls : List Call) (rank : ℕ) (sync : Bool) (comm dest tag : ℕ) (bytes : List ℕ)
    → (reply_of links calls rank (request.Send sync comm dest tag bytes) ≡ Code Full)
    ↔ (65536 + length (got_after links calls) ≤ sends_among (posts_after links calls))
