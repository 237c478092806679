-- What the table and the owners are asked, and how they change.
use Rattle.std.specs.Prelude.{ℕ, suc, [], ◌∷◌, ◌++◌, ◌≡◌, ◌==◌, ◌&&◌, not, Bool, true, false, cond, List}
use Rattle.std.specs.Prelude.{Option, Some, None}
use Rattle.std.specs.List.{slice_get, slice_set}
use Rattle.std.specs.Option.{is_some}
use Rattle.mp_types.specs.declared.messages.Message.{Message}
use Rattle.mp_match.specs.declared.posts.Post.{Post}
use Rattle.mp_match.specs.declared.posts.Post.TheVariants.{Send, Receive, Claim}
use Rattle.mp_match.specs.declared.posts.Line.{Line}
use Rattle.mp_match.specs.declared.live.Live.{Live}
use Rattle.mp_match.specs.declared.live.Owner.{Owner}
use Rattle.mp_match.specs.declared.live.Owner.TheVariants.{Sends, Awaits, Receives, Claims}
use Rattle.mp_match.specs.Board.{Board, envelope_in, line_of, message_in}
use Rattle.mp_match.specs.Live.{owner_of, paired, post_in, IsOver}

-- of a line, if any
abbrev pub owner_in : Option Line → Option Owner
owner_in None = None
owner_in (Some line) = Some (owner_of line)

abbrev pub is_sender : ℕ → Option Owner → Bool
is_sender rank None = false
is_sender rank (Some owner) = elim owner [ Sends r ↦ r == rank | Awaits r ↦ false | Receives r ↦ false | Claims r ↦ false ]

abbrev pub is_taker : ℕ → Option Owner → Bool
is_taker rank None = false
is_taker rank (Some owner) =
    elim owner [ Sends r ↦ false | Awaits r ↦ r == rank | Receives r ↦ r == rank | Claims r ↦ r == rank ]

abbrev pub sends : Option Owner → Bool
sends None = false
sends (Some owner) = elim owner [ Sends r ↦ true | Awaits r ↦ false | Receives r ↦ false | Claims r ↦ false ]

abbrev pub receives : Option Owner → Bool
receives None = false
receives (Some owner) = elim owner [ Sends r ↦ false | Awaits r ↦ true | Receives r ↦ true | Claims r ↦ false ]

abbrev pub claims : Option Owner → Bool
claims None = false
claims (Some owner) = elim owner [ Sends r ↦ false | Awaits r ↦ false | Receives r ↦ false | Claims r ↦ true ]

-- a receive that has no partner
abbrev pub awaits : Option Owner → Bool
awaits None = false
awaits (Some owner) = elim owner [ Sends r ↦ false | Awaits r ↦ true | Receives r ↦ false | Claims r ↦ false ]

-- a post that has a partner from now on
abbrev pub told_owner : Owner → Owner
told_owner (Sends r) = Sends r
told_owner (Awaits r) = Receives r
told_owner (Receives r) = Receives r
told_owner (Claims r) = Claims r

-- the one at the place, if any
abbrev pub told_in : List Owner → ℕ → Option Owner → List Owner
told_in os place None = os
told_in os place (Some owner) = slice_set os place (told_owner owner)

abbrev pub told_at : List Owner → Option ℕ → List Owner
told_at os None = os
told_at os (Some place) = told_in os place (slice_get os place)

-- one post more, which its partner is told of
abbrev pub owners_with : List Owner → Line → List Owner
owners_with os line = told_at os line.partner ++ owner_of line ∷ []

abbrev pub set_at : (ℕ → Option Live) → ℕ → Option Live → ℕ → Option Live
set_at f place live k = cond (place == k) live (f k)

abbrev pub line_in : Option Live → Option Line
line_in None = None
line_in (Some live) = Some live.line

abbrev pub body_in : Option Live → Option (List ℕ)
body_in None = None
body_in (Some live) = live.body

abbrev pub message_of : Option Live → Option Message
message_of live = message_in (envelope_in (line_in live)) (Some (body_in live))

-- a new post at the place, told to its partner if it has one
abbrev pub entered : (ℕ → Option Live) → ℕ → Live → Option ℕ → ℕ → Option Live
entered f place live None = set_at f place (Some live)
entered f place live (Some q) =
    set_at (set_at f place (Some live)) q (paired (set_at f place (Some live) q) place)

-- the post at a place, if any
abbrev pub post_at : List Line → Option ℕ → Option Post
post_at lines None = None
post_at lines (Some place) = post_in (slice_get lines place)

-- the same of what is kept
abbrev pub kept_post : (ℕ → Option Live) → Option ℕ → Option Post
kept_post f None = None
kept_post f (Some place) = post_in (line_in (f place))

abbrev pub is_partner : Option ℕ → ℕ → Bool
is_partner None place = false
is_partner (Some q) place = q == place

-- who has the message of a send that isn't held any more
abbrev pub spent_by : Option Live → Option ℕ
spent_by None = None
spent_by (Some live) =
    elim live.line.post [
      | Send s ↦ cond (is_some live.body) None live.line.partner
      | Receive a ↦ None
      | Claim a ↦ None
    ]

-- whether it is a receive or a claim whose message is that of the send at the place
abbrev pub has_taken : Option Live → ℕ → Bool
has_taken None send = false
has_taken (Some live) send =
    elim live.line.post [ Send s ↦ false | Receive a ↦ true | Claim a ↦ true ]
    && is_partner live.line.partner send && not (is_some live.body)

-- its message isn't held any more
abbrev pub emptied : Option Live → Option Live
emptied None = None
emptied (Some live) = Some (record live { body = None })

-- no post has the number, or it is that of a post that is over
abbrev pub IsPast : Board → ℕ → Type 0
IsPast b number = (line : Line) → line_of b number ≡ Some line
    → (place : ℕ) × (number ≡ suc place) × IsOver b place line
