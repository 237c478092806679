-- How a rank goes on with the numbers that it is told for its posts.
use Rattle.std.specs.Prelude.{ℕ, zero, suc, ◌<◌, ◌≤◌, ◌≡◌, Bool, false, true, List, length, Option, Some}
use Rattle.std.specs.List.{slice_get}
use Rattle.mp_types.specs.declared.messages.Message.{Message}
use Rattle.mp_types.specs.declared.replies.Reply.{Reply}
use Rattle.mp_types.specs.declared.replies.Reply.TheVariants.{Posted, Got}
use Rattle.mp_types.specs.declared.requests.Request.{Request}
use Rattle.mp_types.specs.declared.requests.Request.TheVariants as request
use Rattle.mp_alike_laws.specs.Renaming.{Renaming}
use Rattle.mp_clash_laws.specs.Exchanges.{reply_by}
use Rattle.cl_names_laws.specs.Named.{rank_by}
use Rattle.cl_state.specs.declared.asking.Answer.{Answer}
use Rattle.cl_state.specs.declared.asking.Answer.TheVariants as answer
use Rattle.cl_state.specs.declared.asking.Ask.{Ask}
use Rattle.cl_state.specs.Asked.{asked}
use Rattle.cl_state.specs.Rank.{Rank}
use Rattle.cl_state.specs.Told.{told}
use Rattle.cl_post_laws.specs.Names.{AwaitsOnly, NamesOnly}

-- ---- the first so many posts

-- the rank is the same by all names under which the first so many posts keep their numbers: it names no others
abbrev pub NamesBelow : ℕ → Rank → Type 0
NamesBelow n rank =
    (names : Renaming) → ((place : ℕ) → place < n → names.to place ≡ place) → rank_by names rank ≡ rank

-- the post that an answer tells of is one of the first so many
abbrev pub TellsBelow : ℕ → Answer → Type 0
TellsBelow n (answer.Reply (Posted post done)) = post ≤ n
TellsBelow n _ = Unit {0}

-- ---- any set of posts, by their places

-- the post of this number is in the set; 0 is no post's number
abbrev pub IsNamed : (ℕ → Bool) → ℕ → Type 0
IsNamed set zero = Unit {0}
IsNamed set (suc place) = set place ≡ true

-- the post that an answer tells of is in the set
abbrev pub TellsOnly : (ℕ → Bool) → Answer → Type 0
TellsOnly set (answer.Reply (Posted post done)) = IsNamed set post
TellsOnly set _ = Unit {0}

-- a request asks about posts of the set alone
abbrev pub AsksOnly : (ℕ → Bool) → Request → Type 0
AsksOnly set (request.Collect post) = IsNamed set post
AsksOnly set (request.Finished post) = IsNamed set post
AsksOnly set (request.All posts) = (i post : ℕ) → slice_get posts i ≡ Some post → IsNamed set post
AsksOnly set _ = Unit {0}

-- ---- the law

pub record PostLaw : Type 0 where
  -- told of a post by another number, the rank goes on the same, by that number
  pub renamed : (names : Renaming) (rank : Rank) (hart : ℕ) (reply : Reply) (stamp : ℕ)
      → told (rank_by names rank) hart (answer.Reply (reply_by names reply)) stamp
      ≡ rank_by names (told rank hart (answer.Reply reply) stamp)
  -- a rank names the posts that it was told of, and no others
  pub below : (n m : ℕ) (rank : Rank) (hart : ℕ) (a : Answer) (stamp : ℕ) → n ≤ m → NamesBelow n rank → TellsBelow m a
      → NamesBelow m (told rank hart a stamp)
  -- so it is of any set: a rank names the posts that it named, and those that it was told of
  pub names : (set more : ℕ → Bool) (rank : Rank) (hart : ℕ) (a : Answer) (stamp : ℕ)
      → ((place : ℕ) → set place ≡ true → more place ≡ true) → NamesOnly set rank → TellsOnly more a
      → NamesOnly more (told rank hart a stamp)
  -- and it awaits those that it awaited, and those that it was told of
  pub awaits : (set more : ℕ → Bool) (rank : Rank) (hart : ℕ) (a : Answer) (stamp : ℕ)
      → ((place : ℕ) → set place ≡ true → more place ≡ true) → AwaitsOnly set rank → TellsOnly more a
      → AwaitsOnly more (told rank hart a stamp)
  -- but no standard send, which is complete when it is posted
  pub forgets : (set : ℕ → Bool) (rank : Rank) (hart comm dest tag : ℕ) (bytes : List ℕ) (post stamp : ℕ)
      → asked rank hart ≡ Ask.Hub (request.Send false comm dest tag bytes) → AwaitsOnly set rank
      → AwaitsOnly set (told rank hart (answer.Reply (Posted post true)) stamp)
  -- it asks only about posts that it awaits, where these are among the first so many
  pub asks : (set : ℕ → Bool) (most : ℕ) (rank : Rank) (hart : ℕ) (q : Request)
      → ((place : ℕ) → set place ≡ true → place < most) → AwaitsOnly set rank → asked rank hart ≡ Ask.Hub q
      → AsksOnly set q
  -- a hart that asks for a message now, and is told that its receive is posted, asks for what came for that post, and is
  -- left as if it had been given the message at once
  pub polls : (rank : Rank) (hart comm : ℕ) (source tag : Option ℕ) (post stamp : ℕ) → hart < length rank.harts
      → asked rank hart ≡ Ask.Hub (request.Recv true comm source tag)
      → asked (told rank hart (answer.Reply (Posted post false)) stamp) hart ≡ Ask.Hub (request.Collect post)
  pub later : (rank : Rank) (hart comm : ℕ) (source tag : Option ℕ) (post before stamp : ℕ) (message : Message)
      → hart < length rank.harts → asked rank hart ≡ Ask.Hub (request.Recv true comm source tag)
      → told (told rank hart (answer.Reply (Posted post false)) before) hart (answer.Reply (Got message)) stamp
      ≡ told rank hart (answer.Reply (Got message)) stamp
