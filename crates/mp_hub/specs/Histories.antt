-- What some calls made and got, as their requests and replies tell it.
use Rattle.std.specs.Prelude.{ℕ, ◌+◌, List, [], ◌∷◌, ◌++◌, length, Option, Some, None}
use Rattle.rv_image_types.specs.declared.images.Link.{Link}
use Rattle.mp_types.specs.declared.messages.Message.{Message}
use Rattle.mp_types.specs.declared.requests.Request.{Request}
use Rattle.mp_types.specs.declared.requests.Request.TheVariants as request
use Rattle.mp_types.specs.declared.replies.Reply.{Reply}
use Rattle.mp_types.specs.declared.replies.Reply.TheVariants.{Code, Posted, Got, Held, AllGot}
use Rattle.mp_match.specs.declared.posts.Post.{Post}
use Rattle.mp_match.specs.declared.posts.Post.TheVariants.{Send, Receive, Claim}
use Rattle.mp_match.specs.Pairs.{partner_at}
use Rattle.mp_match.specs.PostPairs.{pairs}
use Rattle.mp_hub.specs.Hub.{Call, reply_of}

-- what each call adds after the calls before it, all of it in order
abbrev pub each_behind : {A : Type 0} → (List Call → Call → List A) → List Call → List Call → List A
each_behind adds before [] = []
each_behind adds before (c ∷ calls) = adds before c ++ each_behind adds (before ++ c ∷ []) calls

-- ---- posts

-- the post that a call makes: a send that is posted, a receive, or a claim that holds a message
abbrev pub post_made : ℕ → Request → Reply → List Post
post_made rank (request.Send sync comm dest tag bytes) (Posted number done) =
    Send (record {
      sync = sync;
      dest = dest;
      envelope = record { comm = comm; source = rank; tag = tag; count = length bytes };
    }) ∷ []
post_made rank (request.Recv now comm source tag) r =
    Receive (record { rank = rank; comm = comm; source = source; tag = tag }) ∷ []
post_made rank (request.Claim comm source tag) (Held number envelope) =
    Claim (record { rank = rank; comm = comm; source = source; tag = tag }) ∷ []
post_made rank q r = []

abbrev pub posts_after : List Link → List Call → List Post
posts_after links calls = each_behind (λ before c. post_made c.0 c.1 (reply_of links before c.0 c.1)) [] calls

-- the number of the next post
abbrev pub number_after : List Link → List Call → ℕ
number_after links calls = length (posts_after links calls) + 1

-- the place of the partner of the post at the place
abbrev pub partner_after : List Link → List Call → ℕ → Option ℕ
partner_after links calls place = partner_at (pairs (posts_after links calls)) place

-- ---- messages that were got

-- of several posts those that gave a message
abbrev pub got_of : List ℕ → List (Option Message) → List ℕ
got_of [] gots = []
got_of (n ∷ ns) [] = []
got_of (n ∷ ns) (None ∷ gots) = got_of ns gots
got_of (n ∷ ns) (Some m ∷ gots) = n ∷ got_of ns gots

-- the numbers of the posts whose messages a reply brings; a receive's own is the next number
abbrev pub got_by : ℕ → Request → Reply → List ℕ
got_by next (request.Recv now comm source tag) (Got m) = next ∷ []
got_by next (request.Collect number) (Got m) = number ∷ []
got_by next (request.Claimed now message) (Got m) = message ∷ []
got_by next (request.All numbers) (AllGot gots) = got_of numbers gots
got_by next q r = []

abbrev pub got_after : List Link → List Call → List ℕ
got_after links calls =
    each_behind (λ before c. got_by (number_after links before) c.1 (reply_of links before c.0 c.1)) [] calls

-- ---- claimed messages that were received

-- the claim whose message a call receives, where it isn't refused
abbrev pub received_by : Request → Reply → List ℕ
received_by (request.Claimed now message) (Code code) = []
received_by (request.Claimed now message) r = message ∷ []
received_by q r = []

abbrev pub received_after : List Link → List Call → List ℕ
received_after links calls = each_behind (λ before c. received_by c.1 (reply_of links before c.0 c.1)) [] calls
