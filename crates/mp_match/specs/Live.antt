-- What is kept of a board: whose each post was and of which kind, and the line and the message of each post that isn't
-- over.
use Rattle.std.specs.Prelude.{ℕ, nat_eq, ◌≡◌, Bool, true, false, List, length, map}
use Rattle.std.specs.Prelude.{Option, Some, None}
use Rattle.std.specs.List.{slice_get}
use Rattle.std.specs.HashMap as hash
use Rattle.std.specs.HashMap.{HashMap}
use Rattle.mp_match.specs.declared.posts.Post.{Post}
use Rattle.mp_match.specs.declared.posts.Post.TheVariants.{Send, Receive, Claim}
use Rattle.mp_match.specs.declared.posts.Line.{Line}
use Rattle.mp_match.specs.declared.live.Live.{Live}
use Rattle.mp_match.specs.declared.live.Owner.{Owner}
use Rattle.mp_match.specs.declared.live.Owner.TheVariants.{Sends, Awaits, Receives, Claims}
use Rattle.mp_match.specs.Board.{Board}

-- ---- whose a post is, and of which kind

-- a receive awaits a message until it has a partner
abbrev pub owner_by : Post → Option ℕ → Owner
owner_by (Send s) partner = Sends s.envelope.source
owner_by (Receive a) None = Awaits a.rank
owner_by (Receive a) (Some partner) = Receives a.rank
owner_by (Claim a) partner = Claims a.rank

abbrev pub owner_of : Line → Owner
owner_of line = owner_by line.post line.partner

abbrev pub owners_of : List Line → List Owner
owners_of lines = map owner_of lines

-- ---- the table of the posts that aren't over, by their places

abbrev pub kept : {S : Type 0} → HashMap ℕ Live S → ℕ → Option Live
kept m place = hash.get nat_eq m place

-- the post has that partner
abbrev pub paired : Option Live → ℕ → Option Live
paired None partner = None
paired (Some live) partner = Some (record live { line = record live.line { partner = Some partner } })

abbrev pub post_in : Option Line → Option Post
post_in None = None
post_in (Some line) = Some line.post

-- ---- what the table and the owners stand for

pub record IsKept (b : Board) (place : ℕ) (live : Live) : Type 0 where
  pub line : slice_get b.lines place ≡ Some live.line
  pub body : slice_get b.bodies place ≡ Some live.body

-- a send, and a receive or a claim, either of them first
abbrev pub are_exchanged : Post → Post → Bool
are_exchanged (Send s) (Receive a) = true
are_exchanged (Send s) (Claim a) = true
are_exchanged (Receive a) (Send s) = true
are_exchanged (Claim a) (Send s) = true
are_exchanged _ _ = false

-- the post has a partner, and no message is held at either
pub record IsOver (b : Board) (place : ℕ) (line : Line) : Type 0 where
  pub partner : ℕ
  pub other : Line
  pub paired : line.partner ≡ Some partner
  pub there : slice_get b.lines partner ≡ Some other
  pub exchanged : are_exchanged line.post other.post ≡ true
  pub empty : slice_get b.bodies place ≡ Some None
  pub gone : slice_get b.bodies partner ≡ Some None

-- each post is kept, or over
pub record StandFor (os : List Owner) (table : ℕ → Option Live) (b : Board) : Type 0 where
  pub owners : os ≡ owners_of b.lines
  pub bodies : length b.bodies ≡ length b.lines
  pub live : (place : ℕ) (live : Live) → table place ≡ Some live → IsKept b place live
  pub over : (place : ℕ) (line : Line) → table place ≡ None → slice_get b.lines place ≡ Some line → IsOver b place line
