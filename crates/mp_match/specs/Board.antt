-- What a hub keeps of the posts: their pairs, and the bytes of the messages that are held.
use Rattle.std.specs.Prelude.{ℕ, zero, suc, ◌+◌, ◌==◌, ◌||◌, not, Bool, true, false, List, [], ◌∷◌, ◌++◌, Option, Some}
use Rattle.std.specs.Prelude.{None}
use Rattle.std.specs.List.{slice_get, slice_set}
use Rattle.mp_types.specs.declared.messages.Envelope.{Envelope}
use Rattle.mp_types.specs.declared.messages.Message.{Message}
use Rattle.mp_match.specs.declared.posts.Sent.{Sent}
use Rattle.mp_match.specs.declared.posts.Selection.{Selection}
use Rattle.mp_match.specs.declared.posts.Post.{Post}
use Rattle.mp_match.specs.declared.posts.Post.TheVariants.{Send, Receive, Claim}
use Rattle.mp_match.specs.declared.posts.Line.{Line}
use Rattle.mp_match.specs.Pairs.{add, partner_for, partner_at}
use Rattle.mp_match.specs.Waiting.{compared_for}

-- each list has one element a post, in the order of posts
pub record Board : Type 0 where
  pub lines : List Line
  pub bodies : List (Option (List ℕ))  -- a message's bytes, from its send until its receive is collected
  pub compared : ℕ  -- how many waiting receives the last send compared

abbrev pub no_posts : Board
no_posts = record { lines = []; bodies = []; compared = 0 }

-- how many messages are held
abbrev pub held_count : List (Option (List ℕ)) → ℕ
held_count [] = 0
held_count (None ∷ bodies) = held_count bodies
held_count (Some bytes ∷ bodies) = held_count bodies + 1

-- ---- posting

abbrev pub compared_after : Board → Post → ℕ
compared_after b (Send s) = compared_for b.lines s
compared_after b (Receive a) = b.compared
compared_after b (Claim a) = b.compared

abbrev pub board_with : Board → Post → Option (List ℕ) → Board
board_with b p body =
    record { lines = add b.lines p; bodies = b.bodies ++ body ∷ []; compared = compared_after b p }

abbrev pub send_posted : Board → Sent → List ℕ → Board
send_posted b s bytes = board_with b (Send s) (Some bytes)

abbrev pub receive_posted : Board → Selection → Board
receive_posted b a = board_with b (Receive a) None

abbrev pub claim_posted : Board → Selection → Board
claim_posted b a = board_with b (Claim a) None

-- a claim is a post where there is a message for it
abbrev pub claimed_if : Board → Selection → Option Envelope → Board
claimed_if b a None = b
claimed_if b a (Some envelope) = claim_posted b a

-- ---- one post, by its number from 1

abbrev pub line_of : Board → ℕ → Option Line
line_of b zero = None
line_of b (suc place) = slice_get b.lines place

-- the place of the post's partner
abbrev pub partner_of : Board → ℕ → Option ℕ
partner_of b zero = None
partner_of b (suc place) = partner_at b.lines place

abbrev pub is_send_of : ℕ → Option Line → Bool
is_send_of rank None = false
is_send_of rank (Some line) =
    elim line.post [ Send s ↦ s.envelope.source == rank | Receive a ↦ false | Claim a ↦ false ]

abbrev pub is_receive_of : ℕ → Option Line → Bool
is_receive_of rank None = false
is_receive_of rank (Some line) =
    elim line.post [ Send s ↦ false | Receive a ↦ a.rank == rank | Claim a ↦ a.rank == rank ]

-- a standard send
abbrev pub is_standard : Option Line → Bool
is_standard None = false
is_standard (Some line) = elim line.post [ Send s ↦ not s.sync | Receive a ↦ false | Claim a ↦ false ]

-- a receive, and no claim
abbrev pub is_receive : Option Line → Bool
is_receive None = false
is_receive (Some line) = elim line.post [ Send s ↦ false | Receive a ↦ true | Claim a ↦ false ]

abbrev pub is_receive_at : Board → Option ℕ → Bool
is_receive_at b None = false
is_receive_at b (Some place) = is_receive (slice_get b.lines place)

-- a send is finished where it is standard or paired with a receive; a claimed one where its claim was received (3.4)
abbrev pub is_finished : Board → ℕ → Bool
is_finished b number = is_standard (line_of b number) || is_receive_at b (partner_of b number)

-- the number of the claim at the place
abbrev pub claim_in : ℕ → Option Line → Option ℕ
claim_in place None = None
claim_in place (Some line) = elim line.post [ Send s ↦ None | Receive a ↦ None | Claim a ↦ Some (place + 1) ]

abbrev pub claim_at : Board → Option ℕ → Option ℕ
claim_at b None = None
claim_at b (Some place) = claim_in place (slice_get b.lines place)

-- the number of the claim that has the message of this send
abbrev pub claim_of : Board → ℕ → Option ℕ
claim_of b number = claim_at b (partner_of b number)

-- ---- messages

abbrev pub envelope_in : Option Line → Option Envelope
envelope_in None = None
envelope_in (Some line) = elim line.post [ Send s ↦ Some s.envelope | Receive a ↦ None | Claim a ↦ None ]

abbrev pub envelope_at : Board → Option ℕ → Option Envelope
envelope_at b None = None
envelope_at b (Some place) = envelope_in (slice_get b.lines place)

-- what the post would be given, and nothing is changed (3.8.1)
abbrev pub probed : Board → Post → Option Envelope
probed b p = envelope_at b (partner_for b.lines p)

abbrev pub message_in : Option Envelope → Option (Option (List ℕ)) → Option Message
message_in (Some envelope) (Some (Some bytes)) = Some (record { envelope = envelope; bytes = bytes })
message_in _ _ = None

-- the message of the send at the place, while it is held
abbrev pub message_at : Board → ℕ → Option Message
message_at b place = message_in (envelope_at b (Some place)) (slice_get b.bodies place)

-- the message of the send at the place isn't held any more
abbrev pub without : Board → ℕ → Board
without b place = record { lines = b.lines; bodies = slice_set b.bodies place None; compared = b.compared }

abbrev pub collect_from : Board → Option ℕ → Option Message × Board
collect_from b None = (None, b)
collect_from b (Some place) = (message_at b place, without b place)

-- collecting a receive or a claim: its message, if it has one that is still held
abbrev pub collect : Board → ℕ → Option Message × Board
collect b number = collect_from b (partner_of b number)

abbrev pub is_held : Option (Option (List ℕ)) → Bool
is_held (Some (Some bytes)) = true
is_held _ = false

abbrev pub is_gone : Board → Option ℕ → Bool
is_gone b None = false
is_gone b (Some place) = not (is_held (slice_get b.bodies place))

-- a receive or a claim was collected where it has a message that isn't held any more
abbrev pub is_collected : Board → ℕ → Bool
is_collected b number = is_gone b (partner_of b number)
